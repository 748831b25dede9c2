-- Where each node that passes stands in the decoded tree.
use Prim.Native.Nat.{ℕ, zero, suc, ◌+◌, ◌*◌, ◌-◌, ◌/◌, ◌%◌, ◌≤◌, ◌<◌}
use mathlib.Core.Path.{◌≡◌, refl, sym, ap, ◌∙◌, subst}
use mathlib.Core.Logic.{inl, ⊎_elim, ◌≢◌}
use mathlib.Core.List.{List}
use native.Mathlib.Omega.{arith}
use lib.Dec.{eqb}
use borrow.Author.Tests.{eqb-true, eqb-false, eq-eqb}
use Rattle.blocks.proofs.BoolLaws.{by_t}
use Rattle.model.specs.declared.Entry.{Entry}
use Rattle.tree.specs.Tree.{tier_order, slots}
use Rattle.layout.specs.declared.Slot.{Slot}
use Rattle.layout.specs.declared.Slot.TheVariants.{Empty, Reserved, Held, Sibling, Child}
use Rattle.layout.specs.Pool.{slot_of, child_of, Pool, slot_at}
use Rattle.layout.specs.Decode.{block_of, wide, span, cell, below, cell_at, entry_at, level_of}
use Rattle.decode.proofs.Restrict.{part, num_from, num_of}
use Rattle.decode.proofs.KeepLaws.{Every, Some, all_map, keep_all, some_left, some_right}
use Rattle.decode.proofs.BelowLaws.{span_all, in_below, slot_of_lem}
use Rattle.local.specs.Local.{ChildOk, SlotOk, Live, Local, OwnedBy, HeadNodeOk, top_level}
use Rattle.local.proofs.BelowLaws.{live_of, reserved_run}

pub span_some : (Q : Entry → Type 0) (f : ℕ → List Entry) (i j k : ℕ) → j ≤ i → i < j + k → Some Q (f i) →
    Some Q (span f j k)
unfolding span
span_some Q f i j zero a b s = absurd (omega arith)
span_some Q f i j (suc k) a b s =
    by_t (eqb j i)
    (λ e. some_left Q (f j) _ (subst (λ (x : ℕ). Some Q (f x)) (sym (eqb-true j i e)) s))
    (λ e. let d : j ≢ i = eqb-false j i e in some_right Q (f j) _
    (span_some Q f i (suc j) k (omega arith) (omega arith) s))

-- node n stands at level v, block b
pub data At (P : Pool) (h top : ℕ) : ℕ → ℕ → ℕ → Type 0 where
  here : At P h top h top 0
  down : {m v c : ℕ} (n b j : ℕ) → At P h top n (suc v) b → j < slots → slot_at P n j ≡ Child m → c ≡ slots * b + j →
      At P h top m v c

pub slot_at_lem : {P : Pool} {n v : ℕ} → Live P n v → (j : ℕ) → j < slots → (κ : Slot) → slot_at P n j ≡ κ →
    SlotOk P n v j κ
slot_at_lem {P} {n} {v} live j lt κ e = subst (SlotOk P n v j) e (live.slots_ok_lem j lt)

-- node n is live, of height h: level h - 1 (at 0 nothing is asked)
abbrev pub Tall : Pool → ℕ → ℕ → Type 0
Tall P zero n = Unit {0}
Tall P (suc v) n = Live P n v

module _ (P : Pool) (L : Local P) where
  pub child_live : (n v j m : ℕ) → ChildOk P n v j m → Tall P v m
  child_live n zero j m s = tt
  child_live n (suc v) j m s =
      let f : s.lower ≡ v = omega (arith, s.is_lower) in
      live_of P L m v s.there (subst (λ (x : ℕ). P.shift m ≡ tier_order x + 1) f s.level)

  low_cell : (v n b j : ℕ) → ((m c : ℕ) → Tall P v m → Every (λ e. e.order < tier_order v) (below P v m c)) →
      (κ : Slot) → SlotOk P n v j κ →
      Every (λ e. e.order < tier_order (suc v)) (cell (below P v) (entry_at P v n b j) (slots * b + j) κ)
  low_cell v n b j ih Empty s = tt
  low_cell v n b j ih Reserved s = (omega (arith, s.bottom, reserved_run P L.fits n v j s), tt)
  low_cell v n b j ih Held s = (omega (arith, s.small), tt)
  low_cell v n b j ih (Sibling o) s = tt
  low_cell v n b j ih (Child m) s = all_map {A = Entry} (λ e. e.order < tier_order v)
      (λ e. e.order < tier_order (suc v)) (λ e z. omega arith) (below P v m (slots * b + j))
      (ih m (slots * b + j) (child_live n v j m s))

  -- all orders below a node are low
  pub below_low : (h n b : ℕ) → Tall P h n → Every (λ e. e.order < tier_order h) (below P h n b)
  unfolding below
  below_low zero n b live = tt
  below_low (suc v) n b live = span_all _ (cell_at P v n b) 0 slots
      (λ j z lt. low_cell v n b j (λ m c t. below_low v m c t) (slot_at P n j) (live.slots_ok_lem j lt))

  -- and something stands there
  some_cell : (v n b j : ℕ) → j < slots → Live P n v →
      ((m c : ℕ) → ChildOk P n v j m → Some (λ e. Unit {0}) (below P v m c)) → (κ : Slot) → slot_at P n j ≡ κ →
      SlotOk P n v j κ → κ ≢ Empty →
      Some (λ e. Unit {0}) (span (cell_at P v n b) 0 slots)
  some_cell v n b j lt live ih Empty e s f = absurd (f refl)
  some_cell v n b j lt live ih Reserved e s f = span_some _ (cell_at P v n b) j 0 slots (omega arith) (omega arith)
      (rw e (inl tt))
  some_cell v n b j lt live ih Held e s f = span_some _ (cell_at P v n b) j 0 slots (omega arith) (omega arith)
      (rw e (inl tt))
  some_cell v n b j lt live ih (Sibling o) e s f = span_some _ (cell_at P v n b) o 0 slots (omega arith)
      (omega (arith, s.after)) (rw s.of_held (inl tt))
  some_cell v n b j lt live ih (Child m) e s f = span_some _ (cell_at P v n b) j 0 slots (omega arith) (omega arith)
      (rw e (ih m (slots * b + j) s))

  pub below_some : (v n b : ℕ) → Live P n v → Some (λ e. Unit {0}) (below P (suc v) n b)
  unfolding below
  below_some zero n b live =
      some_cell 0 n b live.used.0 live.used.2 live (λ m c s. absurd (omega (arith, s.is_lower))) _ refl
      (live.slots_ok_lem _ live.used.2) live.used.3
  below_some (suc v) n b live =
      some_cell (suc v) n b live.used.0 live.used.2 live
      (λ m c s. below_some v m c (child_live n (suc v) _ m s)) _ refl
      (live.slots_ok_lem _ live.used.2) live.used.3

  pub child_some : (n v j m c : ℕ) → ChildOk P n v j m → Some (λ e. Unit {0}) (below P v m c)
  child_some n zero j m c s = absurd (omega (arith, s.is_lower))
  child_some n (suc v) j m c s = below_some v m c (child_live n (suc v) j m s)

  module _ (h : ℕ) (head_is : slot_of P.head ≡ Child h) (H : HeadNodeOk P h) where
    abbrev pub decoded : List Entry
    decoded = below P (suc H.top) h 0

    pub at_live : (n v b : ℕ) → At P h H.top n v b → Live P n v
    at_live _ _ _ here = H.live
    at_live m v c (down n b j a lt k e) = child_live n (suc v) j m (slot_at_lem (at_live n (suc v) b a) j lt (Child m) k)

    pub at_list : (n v b : ℕ) → At P h H.top n v b → part (wide (suc v)) b decoded ≡ below P (suc v) n b
    at_list _ _ _ here = keep_all _ decoded (all_map _ _
        (λ (e : Entry) (d : e.base / wide (suc H.top) ≡ 0). eq-eqb _ _ d) decoded (in_below P (suc H.top) h 0))
    at_list m v c (down n b j a lt k e) = rw e (slot_of_lem P decoded (suc v) n b j lt (at_list n (suc v) b a) ∙ (rw k))

    pub at_there : (n v b : ℕ) → At P h H.top n v b → n < P.count
    at_there _ _ _ here = H.there
    at_there m v c (down n b j a lt k e) = (slot_at_lem (at_live n (suc v) b a) j lt (Child m) k).there

    pub at_top : (n v b : ℕ) → At P h H.top n v b → v ≤ H.top
    at_top _ _ _ here = omega arith
    at_top m v c (down n b j a lt k e) = omega (arith, at_top n (suc v) b a)

    head_level : level_of P (child_of (slot_of P.head)) ≡ H.top
    head_level = rw (head_is, H.live.level) (omega arith)

    num_at : (n v b : ℕ) → At P h H.top n v b → num_from P (H.top - v) b ≡ n
    num_at _ _ _ here = let z : H.top - H.top ≡ 0 = omega arith in rw (z, head_is)
    num_at m v c (down n b j a lt k e) =
        let z : H.top - v ≡ suc (H.top - suc v) = omega (arith, at_top n (suc v) b a) in
        let q : c / slots ≡ b = omega arith in
        let r : c % slots ≡ j = omega arith in
        rw (z, q, r, num_at n (suc v) b a, k)

    -- the decoded numbering gives each place its node
    pub at_num : (n v b : ℕ) → At P h H.top n v b → num_of P v b ≡ n
    at_num n v b a = rw head_level (num_at n v b a)

    rise : (n v : ℕ) → Live P n v → (OwnedBy P n v → (b : ℕ) × At P h H.top n v b) →
        (b : ℕ) × At P h H.top n v b
    rise n v live f = ⊎_elim
        (λ (z : (P.owner n ≡ 0) × (slot_of P.head ≡ Child n)).
        let f : n ≡ h = cc (z.1, head_is) in
        let g : P.shift n ≡ P.shift h = ap P.shift f in
        let w : v ≡ H.top = omega (arith, live.level, H.live.level) in
        (0, rw (f, w) here))
        f
        live.owned

    -- every live node has a place: up along the owners
    pub climb : (d n v : ℕ) → v + d ≡ top_level → Live P n v → (b : ℕ) × At P h H.top n v b
    climb zero n v e live = rise n v live (λ z. absurd
        (omega (arith, (live_of P L z.parent (suc v) z.there z.above).high)))
    climb (suc d) n v e live =
        rise n v live (λ z.
        let r = climb d z.parent (suc v) (omega arith) (live_of P L z.parent (suc v) z.there z.above) in
        (slots * r.0 + z.offset, down z.parent r.0 z.offset r.1 z.in_node z.holds refl))

    addr_at : (n v b : ℕ) → At P h H.top n v b → block_of P (H.top - v) n ≡ b
    addr_at _ _ _ here = let z : H.top - H.top ≡ 0 = omega arith in rw z
    addr_at m v c (down n b j a lt k e) =
        let z : H.top - v ≡ suc (H.top - suc v) = omega (arith, at_top n (suc v) b a) in
        let s = slot_at_lem (at_live n (suc v) b a) j lt (Child m) k in
        let q : (P.owner m - 1) / slots ≡ n = omega (arith, s.owned) in
        let r : (P.owner m - 1) % slots ≡ j = omega (arith, s.owned) in
        rw (z, q, r, addr_at n (suc v) b a) (sym e)

    -- a node has one place
    pub at_same : (n v b v' b' : ℕ) → At P h H.top n v b → At P h H.top n v' b' → (v ≡ v') × (b ≡ b')
    at_same n v b v' b' p q =
        let e : v ≡ v' = omega (arith, (at_live n v b p).level, (at_live n v' b' q).level) in
        (e, sym (addr_at n v b p) ∙ ap (λ (x : ℕ). block_of P (H.top - x) n) e ∙ addr_at n v' b' q)
