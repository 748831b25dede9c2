-- What a change of one key leaves: sizes, parts and slots of every block that does not hold it.
use Prim.Native.Nat.{ℕ, zero, suc, ◌+◌, ◌*◌, ◌-◌, ◌/◌, ◌≤◌, ◌<◌}
use mathlib.Core.Path.{◌≡◌, refl, sym, ap, ◌∙◌}
use mathlib.Core.Bool.{Bool, true, false}
use mathlib.Core.List.{List, [], ◌∷◌}
use mathlib.Core.Option.{Option, none, some}
use native.Mathlib.Omega.{arith}
use lib.Dec.{leb, ltb, eqb}
use lib.ListN.{length}
use borrow.Author.Tests.{eqb-true, ne_eqb, lt-leb}
use Rattle.blocks.specs.Lists.{keep, without, first}
use Rattle.blocks.proofs.BoolLaws.{by_t}
use Rattle.blocks.proofs.ListLaws.{first_yes, each}
use Rattle.assoc_tree.specs.Keys.{Item, insert, delete, is_key_of}
use Rattle.assoc_tree.specs.Parts.{Part, top, is_part, block_of, over, in_block, size, full, slots, skipped, low_from, branch, is_upper, part_over, has, leads, leads_for, slot, head_item}
use Rattle.assoc_tree.proofs.SizeLaws.{up}
use Rattle.assoc_tree.proofs.SlotLaws.{tier_up}

-- l and l' have the same keys but k, in the same order, in every block without k
pub record Apart (k : ℕ) (l l' : List Item) : Type 0 where
  pub same_in : (v c : ℕ) → (block_of v k ≡ c → ⊥) → in_block l v c ≡ in_block l' v c

-- INSERT AND DELETE are such changes
keep_insert : (p : Item → Bool) (e : Item) (l : List Item) → ((x : Item) → x.key ≡ e.key → p x ≡ false) → keep p (insert e l) ≡ keep p l
keep_insert p e [] n = rw (n e refl)
keep_insert p e (x ∷ l) n =
    by_t (ltb e.key x.key) (λ c. rw (c, n e refl))
    (λ c. by_t (eqb e.key x.key)
    (λ d. rw (c, d, n e refl, n x (sym (eqb-true e.key x.key d))))
    (λ d. rw (c, d) (by_t (p x) (λ t. rw t (ap (λ (r : List Item). x ∷ r) (keep_insert p e l n))) (λ t. rw t (keep_insert p e l n)))))

keep_without : (p q : Item → Bool) (l : List Item) → ((x : Item) → q x ≡ true → p x ≡ false) → keep p (without q l) ≡ keep p l
keep_without p q [] n = refl
keep_without p q (x ∷ l) n =
    by_t (q x) (λ c. rw (c, n x c) (keep_without p q l n))
    (λ c. rw c (by_t (p x) (λ t. rw t (ap (λ (r : List Item). x ∷ r) (keep_without p q l n))) (λ t. rw t (keep_without p q l n))))

out : (v c k : ℕ) (x : Item) → (block_of v k ≡ c → ⊥) → x.key ≡ k → over v c x ≡ false
out v c k x n e = ne_eqb _ _ (λ q. n (ap (block_of v) (sym e) ∙ q))

pub apart_insert : (e : Item) (l : List Item) → Apart e.key l (insert e l)
apart_insert e l = record { same_in = λ v c n. sym (keep_insert (over v c) e l (λ x q. out v c e.key x n q)) }

pub apart_delete : (k : ℕ) (l : List Item) → Apart k l (delete k l)
apart_delete k l = record {
  same_in = λ v c n. sym (keep_without (over v c) (is_key_of k) l (λ x q. out v c k x n (eqb-true _ _ q)));
}

-- THE FIRST KEY of a block
first_keep : (p : Item → Bool) (l : List Item) → first p l ≡ head_item (keep p l)
first_keep p [] = refl
first_keep p (x ∷ l) = by_t (p x) (λ t. rw t) (λ t. rw t (first_keep p l))

module _ {k : ℕ} {l l' : List Item} (a : Apart k l l') where
  pub far_size : (v c : ℕ) → (block_of v k ≡ c → ⊥) → size l v c ≡ size l' v c
  unfolding size
  far_size v c n = ap length (a.same_in v c n)

  pub far_first : (v c : ℕ) → (block_of v k ≡ c → ⊥) → first (over v c) l ≡ first (over v c) l'
  far_first v c n = first_keep (over v c) l ∙ ap head_item (a.same_in v c n) ∙ sym (first_keep (over v c) l')

  -- below a block without k is no block with it
  below : {v w : ℕ} (x : ℕ) → v ≤ w → (block_of w k ≡ block_of w x → ⊥) → block_of v k ≡ block_of v x → ⊥
  below {v} {w} x h n e = n (up {v = v} {w = w} k x h e)

  pub far_skipped : (v x : ℕ) → (block_of v k ≡ block_of v x → ⊥) → skipped l v x ≡ skipped l' v x
  unfolding skipped
  far_skipped zero x n = refl
  far_skipped (suc v) x n =
      rw (far_size (suc v) (block_of (suc v) x) n, far_size v (block_of v x) (below {v = v} {w = suc v} x (omega arith) n))

  pub far_low : (v x : ℕ) → (block_of v k ≡ block_of v x → ⊥) → low_from l x v ≡ low_from l' x v
  unfolding low_from
  far_low zero x n = refl
  far_low (suc v) x n = rw (far_skipped (suc v) x n, far_low v x (below {v = v} {w = suc v} x (omega arith) n))

  -- what leads to a block without k stays
  pub far_branch : (v x : ℕ) → (block_of v k ≡ block_of v x → ⊥) → branch l v x ≡ branch l' v x
  far_branch v x n = rw (far_low v x n)

  pub far_leads : (v c : ℕ) → (block_of v k ≡ c → ⊥) → leads l v c ≡ leads l' v c
  far_leads v c n = ap (leads_for l v c) (far_first v c n) ∙ go (first (over v c) l') refl
    where
      go : (o : Option Item) → first (over v c) l' ≡ o → leads_for l v c o ≡ leads_for l' v c o
      go none q = refl
      go (some x) q =
          let e : block_of v x.key ≡ c = eqb-true _ _ (first_yes (over v c) (each l' (λ z i. i)) q).0 in
          ap some (rw (far_size v c n) (by_t (leb 2 (size l' v c))
          (λ t. rw t (far_branch v x.key (λ d. n (d ∙ e)))) (λ t. rw t)))

  -- SLOTS
  -- a node without k keeps its slots
  pub far_slot : (v c j : ℕ) → 1 ≤ v → j < 16 → (block_of v k ≡ c → ⊥) → slot l v c j ≡ slot l' v c j
  unfolding slot
  far_slot v c j h g n =
      rw (far_size v c n, a.same_in v c n) (by_t (leb (size l' v c) full) (λ t. rw t)
      (λ t. rw t (far_leads (v - 1) (slots * c + j) (λ e. n (up_to e)))))
    where
      up_to : block_of (v - 1) k ≡ slots * c + j → block_of v k ≡ c
      up_to e =
          let d : v ≡ suc (v - 1) = omega arith in
          let b : block_of v k ≡ block_of (v - 1) k / slots = ap (λ (u : ℕ). block_of u k) d ∙ tier_up (v - 1) k in
          omega arith

  -- a node with more than 16 keys before and after keeps every slot but that of k
  pub beside_slot : (v c j : ℕ) → full < size l v c → full < size l' v c → (block_of (v - 1) k ≡ slots * c + j → ⊥) →
      slot l v c j ≡ slot l' v c j
  unfolding slot
  beside_slot v c j h h' n = rw (lt-leb (size l v c) full h, lt-leb (size l' v c) full h') (far_leads (v - 1) (slots * c + j) n)

  -- PARTS under a block without k stay
  pub far_upper : (v x : ℕ) → (block_of (suc v) k ≡ block_of (suc v) x → ⊥) → is_upper l v x ≡ is_upper l' v x
  unfolding is_upper
  far_upper zero x n = refl
  far_upper (suc v) x n =
      let n' : block_of (suc v) k ≡ block_of (suc v) x → ⊥ = below {v = suc v} {w = suc (suc v)} x (omega arith) n in
      rw (
        far_size (suc v) (block_of (suc v) x) n',
        far_size (suc (suc v)) (block_of (suc (suc v)) x) n,
        far_skipped (suc v) x n',
        far_skipped (suc (suc v)) x n,
      )

  pub far_has : (p : Part) → (block_of (suc (top p)) k ≡ block_of (suc (top p)) p.base → ⊥) → has l p ≡ has l' p
  unfolding has
  far_has p n =
      ap (λ (o : Option Item). is_part p (part_over l (top p) o)) (far_first (top p) (block_of (top p) p.base) n') ∙
      go (first (over (top p) (block_of (top p) p.base)) l') refl
    where
      n' : block_of (top p) k ≡ block_of (top p) p.base → ⊥
      n' = below {v = top p} {w = suc (top p)} p.base (omega arith) n

      go : (o : Option Item) → first (over (top p) (block_of (top p) p.base)) l' ≡ o →
          is_part p (part_over l (top p) o) ≡ is_part p (part_over l' (top p) o)
      go none q = refl
      go (some x) q =
          let e : block_of (top p) x.key ≡ block_of (top p) p.base =
          eqb-true _ _ (first_yes (over (top p) (block_of (top p) p.base)) (each l' (λ z i. i)) q).0 in
          let e' : block_of (suc (top p)) x.key ≡ block_of (suc (top p)) p.base =
          up {v = top p} {w = suc (top p)} x.key p.base (omega arith) e in
          rw (far_upper (top p) x.key (λ d. n (d ∙ e')), far_branch (top p) x.key (λ d. n' (d ∙ e)))
