-- The slots of a node by their bytes, where each sibling follows its entry or an equal sibling and each run ends where it may.
use Prim.Native.Nat.{ℕ, zero, suc, ◌+◌, ◌*◌, ◌-◌, ◌/◌, ◌%◌, ◌^◌, ◌≤◌, ◌<◌, min}
use mathlib.Core.Path.{◌≡◌, refl, sym, ap, ◌∙◌, subst}
use mathlib.Core.Bool.{true}
use mathlib.Core.Logic.{◌⊎◌, inl, inr, ◌≢◌}
use mathlib.Core.List.{List}
use native.Mathlib.Omega.{arith}
use native.Mathlib.Nat.{pow-suc, mod-one}
use lib.Dec.{eqb, ltb}
use lib.ListN.{get_or}
use lib.Bits.{bit_and, bit_or, and_step, and_self}
use borrow.Author.Tests.{eqb-true, eqb-false, ltb-true, ltb-false}
use Rattle.blocks.specs.Blocks.{bit}
use Rattle.blocks.proofs.BoolLaws.{by_t}
use Rattle.blocks.proofs.TwoWordLaws.{or_none}
use Rattle.model.specs.Model.{reserved_word}
use Rattle.tree.specs.Tree.{slots}
use Rattle.tree.specs.Slots.{sibling_word}
use Rattle.layout.specs.Pool.{Pool, slot_at, run}
use Rattle.layout.specs.declared.Slot.{Slot}
use Rattle.layout.specs.declared.Slot.TheVariants.{Empty, Reserved, Held, Sibling, Child}
use Rattle.layout.proofs.SaysLaws.{word_of_lem, said_sibling}
use Rattle.local.specs.Local.{SlotsOk, cap, top_level}
use Rattle.steps.specs.Steps.{AllMarks, SameSlots, RunFits, Stepped}
use Rattle.passes.specs.Bytes.{unfit_of, ChainedTo, ChildrenTo}
use Rattle.steps.proofs.DecideLaws.{yes! }
use Rattle.steps.proofs.WordLaws.{mask_mod}
use Rattle.steps.proofs.RunLaws.{fits_run_lem, fits_held}
use Rattle.steps.proofs.StepLaws.{Gone, gone_start, gone_on, step_run, step_decides, step_child}
use Rattle.steps.proofs.StepLaws.{empty_not_held, reserved_not_held, child_not_held}

-- A RUN THAT FITS
power_of : (k q : ℕ) → q < 2 ^ k → bit_and (q + 1) q ≡ 0 → (r : ℕ) × (r ≤ k) × (q + 1 ≡ 2 ^ r)
power_of zero q h e = (0, omega arith, omega arith)
power_of (suc k) q h e =
    let s : bit_and (q + 1) q ≡ bit_and ((q + 1) / 2) (q / 2) * 2 + min ((q + 1) % 2) (q % 2) = and_step (q + 1) q in
    let z : bit_and ((q + 1) / 2) (q / 2) ≡ 0 = omega arith in
    let p : 2 ^ suc k ≡ 2 ^ k * 2 = pow-suc 2 k in
    by_t (eqb (q % 2) 0)
    (λ t. let v : q % 2 ≡ 0 = eqb-true (q % 2) 0 t in
    let a : (q + 1) / 2 ≡ q / 2 = omega arith in
    let b : q / 2 ≡ 0 = sym (and_self (q / 2)) ∙ ap (λ (x : ℕ). bit_and x (q / 2)) (sym a) ∙ z in
    (0, omega arith, omega arith))
    (λ t. let v : q % 2 ≢ 0 = eqb-false (q % 2) 0 t in
    let a : (q + 1) / 2 ≡ q / 2 + 1 = omega arith in
    let r = power_of k (q / 2) (omega arith) (ap (λ (x : ℕ). bit_and x (q / 2)) (sym a) ∙ z) in
    let f : q / 2 + 1 ≡ 2 ^ r.0 = r.2 in
    let g : 2 ^ suc r.0 ≡ 2 ^ r.0 * 2 = pow-suc 2 r.0 in
    (suc r.0, omega (arith, r.1), omega arith))

fits_one : (v o : ℕ) → slots ≡ cap v → o < slots → RunFits v o 1
fits_one v o c h = record {
  power = (0, omega arith, refl);
  short = omega arith;
  aligned = mod-one o;
  ends = omega arith;
}

fits_more : (v o j : ℕ) → slots ≡ cap v → o < j → j < slots → unfit_of o j ≡ 0 → RunFits v o (j + 1 - o)
fits_more v o j c h l e = go (j - o) d refl
  where
    d : (j + 64 - o) % 64 ≡ j - o
    d = omega arith

    go : (q : ℕ) → (j + 64 - o) % 64 ≡ q → q ≡ j - o → RunFits v o (j + 1 - o)
    go q a b =
        let u : bit_or (bit_or (bit_and (q + 1) q) (bit_and o q)) (q / 32) ≡ 0 =
        ap (λ (x : ℕ). bit_or (bit_or (bit_and (x + 1) x) (bit_and o x)) (x / 32)) (sym a) ∙ e in
        let v = or_none (bit_or (bit_and (q + 1) q) (bit_and o q)) (q / 32) u in
        let w = or_none (bit_and (q + 1) q) (bit_and o q) v.0 in
        let s : q < 2 ^ 5 = omega (arith, v.1) in
        let p = power_of 5 q s w.0 in
        let f : j + 1 - o ≡ q + 1 = omega arith in
        let m : bit_and o (q + 1 - 1) ≡ o % (q + 1) = mask_mod o (q + 1) p.0 p.2 in
        let i : q + 1 - 1 ≡ q = omega arith in
        record {
          power = (p.0, p.1, f ∙ p.2);
          short = omega arith;
          aligned = ap (λ (x : ℕ). o % x) f ∙ sym m ∙ ap (bit_and o) i ∙ w.1;
          ends = omega arith;
        }

-- WHAT THE BYTES OF A NODE SHOW
-- of node n, of level v, whose marks are m: bs has a byte for each slot
pub record Seen (P : Pool) (n v m : ℕ) (bs : List ℕ) : Type 0 where
  pub full : slots ≡ cap v
  pub high : v ≤ top_level
  pub first : get_or bs 0 0 ≡ 0
  pub last : get_or bs 65 0 ≡ 0
  pub held : (j : ℕ) → j < slots → get_or bs (j + 1) 0 ≡ 1 → slot_at P n j ≡ Held
  pub sibling : (j o : ℕ) → j < slots → slot_at P n j ≡ Sibling o → (o < slots) × (get_or bs (j + 1) 0 ≡ sibling_word o)
  pub word : (j o : ℕ) → j < slots → get_or bs (j + 1) 0 ≡ sibling_word o → P.slot n j ≡ sibling_word o
  pub clear : (j : ℕ) → j < slots → slot_at P n j ≢ Held → ((d : ℕ) → slot_at P n j ≢ Child d) → bit j m ≡ 0
  pub bottom : (j : ℕ) → j < slots → slot_at P n j ≡ Reserved → v ≡ 0
  pub child : ChildrenTo P n v slots

-- THE SLOTS ONE BY ONE
module _ (P : Pool) (n v m : ℕ) (bs : List ℕ) (g : Seen P n v m bs) (ch : ChainedTo bs slots) (am : AllMarks P n m) where
  -- a word that is no node's
  low_clear : (j : ℕ) → j < slots → slot_at P n j ≢ Held → P.slot n j < 4098 → bit j m ≡ 0
  low_clear j lt ne l = g.clear j lt ne
      (λ d e. let w : P.slot n j ≡ 4 * (1024 + d) + 2 = word_of_lem (P.slot n j) (Child d) e in omega arith)

  -- a sibling's own slot
  record Sib (j o : ℕ) : Type 0 where
    word : P.slot n j ≡ sibling_word o
    low : o < slots
    byte : get_or bs (j + 1) 0 ≡ sibling_word o

  sib_of : (j o : ℕ) → j < slots → slot_at P n j ≡ Sibling o → Sib j o
  sib_of j o lt e =
      let s = g.sibling j o lt e in record { word = (word_of_lem (P.slot n j) (Sibling o) e).0; low = s.0; byte = s.1 }

  sib_first : (o : ℕ) → slot_at P n 0 ≡ Sibling o → ⊥
  sib_first o e =
      let s = sib_of 0 o (omega arith) e in
      let b : get_or bs (0 + 1) 0 ≡ 4 * o + 2 = s.byte in
      let f : get_or bs 0 0 ≡ 0 = g.first in
      let r = (ch 0 (omega arith)).follows (omega arith) (λ (z : get_or bs (0 + 1) 0 ≡ get_or bs 0 0). omega arith) in
      omega (arith, r.0)

  sib_next : (i o : ℕ) {C : Type 0} → i + 1 < slots → slot_at P n (i + 1) ≡ Sibling o → (P.slot n i ≡ sibling_word o → C) →
      (slot_at P n i ≡ Held → o ≡ i → C) → C
  sib_next i o lt e f h =
      let s = sib_of (i + 1) o lt e in
      let b : get_or bs (i + 1 + 1) 0 ≡ 4 * o + 2 = s.byte in
      by_t (eqb (get_or bs (i + 1 + 1) 0) (get_or bs (i + 1) 0))
      (λ t. let q : get_or bs (i + 1 + 1) 0 ≡ get_or bs (i + 1) 0 = eqb-true (get_or bs (i + 1 + 1) 0) (get_or bs (i + 1) 0) t in
      f (g.word i o (omega arith) (sym q ∙ b)))
      (λ t. let r = (ch (i + 1) lt).follows (omega arith) (eqb-false (get_or bs (i + 1 + 1) 0) (get_or bs (i + 1) 0) t) in
      h (g.held i (omega arith) r.0) (omega (arith, r.1)))

  sib_last : (j o : ℕ) → j < slots → slot_at P n j ≡ Sibling o → (j + 1 < slots → P.slot n (j + 1) ≢ sibling_word o) →
      unfit_of o j ≡ 0
  sib_last j o lt e ne =
      let s = sib_of j o lt e in
      let b : get_or bs (j + 1) 0 ≡ 4 * o + 2 = s.byte in
      let d : get_or bs (j + 1) 0 / 4 ≡ o = omega arith in
      ap (λ (x : ℕ). unfit_of x j) (sym d) ∙ (ch j lt).closed (omega arith) (λ (q : get_or bs (j + 2) 0 ≡ get_or bs (j + 1) 0).
      by_t (ltb (j + 1) slots)
      (λ t. let l : j + 1 < slots = ltb-true (j + 1) slots t in
      let k : j + 1 + 1 ≡ j + 2 = omega arith in
      ne l (g.word (j + 1) o l (ap (λ (x : ℕ). get_or bs x 0) k ∙ q ∙ b)))
      (λ t. let l : slots ≤ j + 1 = ltb-false (j + 1) slots t in
      let k : j + 2 ≡ 65 = omega arith in
      let z : get_or bs (j + 2) 0 ≡ 0 = ap (λ (x : ℕ). get_or bs x 0) k ∙ g.last in omega arith))

  -- an entry in slot o, with its siblings up to slot j
  record Open (j o : ℕ) : Type 0 where
    below : o < j
    held : slot_at P n o ≡ Held
    gone : Gone P n v o
    all : (i : ℕ) → o < i → i < j → P.slot n i ≡ sibling_word o

  -- nothing that goes on at slot j
  record Shut (j : ℕ) : Type 0 where
    gone : Gone P n v j
    free : (i : ℕ) → i + 1 ≡ j → slot_at P n i ≢ Held
    none : (i : ℕ) → i + 1 ≡ j → P.slot n i % 4 ≡ 2 → 256 ≤ P.slot n i

  abbrev At : ℕ → Type 0
  At j = Shut j ⊎ ((o : ℕ) × Open j o)

  -- the run of the entry in slot o ends before slot j
  close : (j o : ℕ) → j ≤ slots → Open j o → (j < slots → P.slot n j ≢ sibling_word o) → Gone P n v j
  close j o h p ne =
      let b : o < j = p.below in
      let d : o + (j - o) ≡ j = omega arith in
      let lt : o < slots = omega arith in
      let k = counted d in
      let f = fits d in
      let r : j - o ≡ 2 ^ run P n o = fits_run_lem P n v o (j - o) lt k f in
      subst (λ (x : ℕ). Gone P n v x) d (gone_on P n v o (j - o) p.gone
      (step_run P n v o p.held lt (j - o) m r (fits_held P n v o (j - o) lt k g.high f) am p.gone.past
      (λ i x y. low_clear i (omega arith) (sibling_not_held i o (p.all i x (omega arith)))
      (let z : P.slot n i ≡ 4 * o + 2 = p.all i x (omega arith) in omega arith))))
    where
      sibling_not_held : (i o : ℕ) → P.slot n i ≡ sibling_word o → slot_at P n i ≢ Held
      sibling_not_held i o e q = (word_of_lem (P.slot n i) Held q).1 (let z : P.slot n i % 4 ≡ 2 = omega arith in z)

      counted : o + (j - o) ≡ j → SameSlots P n o (sibling_word o) (j - o)
      counted d = record {
        some = omega (arith, p.below);
        inside = omega arith;
        all = λ i x y. p.all i x (omega arith);
        ends = λ l. subst (λ (x : ℕ). x < slots → P.slot n x ≢ sibling_word o) (sym d) ne l;
      }

      fits : o + (j - o) ≡ j → RunFits v o (j - o)
      fits d =
          by_t (eqb (j - o) 1)
          (λ t. subst (λ (x : ℕ). RunFits v o x) (sym (eqb-true (j - o) 1 t)) (fits_one v o g.full (omega (arith, p.below))))
          (λ t. let z : j - o ≢ 1 = eqb-false (j - o) 1 t in
          let b : o < j = p.below in
          let e : j - 1 + 1 ≡ j = omega arith in
          let q : j - 1 + 1 - o ≡ j - o = omega arith in
          let s : slot_at P n (j - 1) ≡ Sibling o = said_sibling (P.slot n (j - 1)) o (p.all (j - 1) (omega arith) (omega arith)) (omega arith) in
          subst (λ (x : ℕ). RunFits v o x) q (fits_more v o (j - 1) g.full (omega arith) (omega arith)
          (sib_last (j - 1) o (omega arith) s (subst (λ (x : ℕ). x < slots → P.slot n x ≢ sibling_word o) (sym e) ne))))

  -- a slot that is no sibling
  shut_at : (j : ℕ) → j ≤ slots → At j → ((o : ℕ) → o < slots → j < slots → P.slot n j ≢ sibling_word o) → Gone P n v j
  shut_at j h (inl s) ne = s.gone
  shut_at j h (inr (o, p)) ne = close j o h p (ne o (omega (arith, p.below)))

  one_more : (j : ℕ) (κ : Slot) → j < slots → slot_at P n j ≡ κ → slot_at P n j ≢ Held → Gone P n v j →
      Stepped P n v j 1 → (P.slot n j % 4 ≡ 2 → 256 ≤ P.slot n j) → At (j + 1)
  one_more j κ lt e ne gone s r = inl (record {
    gone = gone_on P n v j 1 gone s;
    free = λ i q. let k : i ≡ j = omega arith in subst (λ (x : ℕ). slot_at P n x ≢ Held) (sym k) ne;
    none = λ i q. let k : i ≡ j = omega arith in
        subst (λ (x : ℕ). P.slot n x % 4 ≡ 2 → 256 ≤ P.slot n x) (sym k) r;
  })

  grow : (j o : ℕ) → Open j o → P.slot n j ≡ sibling_word o → Open (j + 1) o
  grow j o p e = record {
    below = omega (arith, p.below);
    held = p.held;
    gone = p.gone;
    all = λ i x y. by_t (eqb i j)
        (λ t. subst (λ (x : ℕ). P.slot n x ≡ sibling_word o) (sym (eqb-true i j t)) e)
        (λ t. let d : i ≢ j = eqb-false i j t in p.all i x (omega arith));
  }

  -- a sibling goes on with what stands before it
  sib_on : (i q : ℕ) → i + 1 < slots → slot_at P n (i + 1) ≡ Sibling q → At (i + 1) → At (i + 1 + 1)
  sib_on i q lt e (inl s) =
      let k = sib_of (i + 1) q lt e in
      let low : q < slots = k.low in
      sib_next i q lt e
      (λ w. let r : 256 ≤ P.slot n i = s.none i refl (let z : P.slot n i % 4 ≡ 2 = omega arith in z) in absurd (omega arith))
      (λ h d. absurd (s.free i refl h))
  sib_on i q lt e (inr (o, p)) =
      let k = sib_of (i + 1) q lt e in
      let b : o < i + 1 = p.below in
      let word : P.slot n (i + 1) ≡ 4 * q + 2 = k.word in
      sib_next i q lt e
      (λ w. by_t (eqb o i)
      (λ t. absurd ((word_of_lem (P.slot n i) Held (subst (λ (x : ℕ). slot_at P n x ≡ Held) (eqb-true o i t) p.held)).1
      (let z : P.slot n i % 4 ≡ 2 = omega arith in z)))
      (λ t. let d : o ≢ i = eqb-false o i t in
      let v : P.slot n i ≡ 4 * o + 2 = p.all i (omega arith) (omega arith) in
      inr (o, grow (i + 1) o p (omega arith))))
      (λ h d. by_t (eqb o i)
      (λ t. let y : o ≡ i = eqb-true o i t in inr (o, grow (i + 1) o p (omega arith)))
      (λ t. let y : o ≢ i = eqb-false o i t in
      let v : P.slot n i ≡ 4 * o + 2 = p.all i (omega arith) (omega arith) in
      absurd ((word_of_lem (P.slot n i) Held h).1 (let z : P.slot n i % 4 ≡ 2 = omega arith in z))))

  sib_step : (j q : ℕ) → j < slots → slot_at P n j ≡ Sibling q → At j → At (j + 1)
  sib_step zero q lt e a = absurd (sib_first q e)
  sib_step (suc i) q lt e a =
      let d : i + 1 ≡ suc i = omega arith in
      subst (λ (x : ℕ). At (x + 1)) d (sib_on i q (omega arith) (subst (λ (x : ℕ). slot_at P n x ≡ Sibling q) (sym d) e)
      (subst At (sym d) a))

  on_with : (j : ℕ) → j < slots → At j → (κ : Slot) → slot_at P n j ≡ κ → At (j + 1)
  on_with j lt a Empty e =
      let w : P.slot n j ≡ 0 = word_of_lem (P.slot n j) Empty e in
      let gone = shut_at j (omega arith) a (λ o x y (z : P.slot n j ≡ sibling_word o). omega arith) in
      let ne = empty_not_held P n v j e in
      one_more j Empty lt e ne gone
      (step_decides P n v j true Empty e ne lt gone.past (yes! (am.clear j (low_clear j lt ne (omega arith)))))
      (λ x. absurd (omega arith))
  on_with j lt a Reserved e =
      let w : P.slot n j ≡ reserved_word = word_of_lem (P.slot n j) Reserved e in
      let gone = shut_at j (omega arith) a (λ o x y (z : P.slot n j ≡ sibling_word o). omega arith) in
      let ne = reserved_not_held P n v j e in
      one_more j Reserved lt e ne gone
      (step_decides P n v j true Reserved e ne lt gone.past (yes! (record {
        bottom = g.bottom j lt e;
        unmarked = am.clear j (low_clear j lt ne (omega arith));
        alone = λ l (z : P.slot n (j + 1) ≡ sibling_word j). sib_next j j l (said_sibling (P.slot n (j + 1)) j z lt)
            (λ (x : P.slot n j ≡ sibling_word j). omega arith) (λ h d. ne h);
      })))
      (λ x. omega arith)
  on_with j lt a Held e =
      let w = word_of_lem (P.slot n j) Held e in
      let u : P.slot n j % 4 ≢ 2 = w.1 in
      inr (
        j,
        record {
          below = omega arith;
          held = e;
          gone = shut_at j (omega arith) a (λ o x y (z : P.slot n j ≡ sibling_word o). u (omega arith));
          all = λ i x y. absurd (omega arith);
        },
      )
  on_with j lt a (Sibling q) e = sib_step j q lt e a
  on_with j lt a (Child d) e =
      let w : P.slot n j ≡ 4 * (1024 + d) + 2 = word_of_lem (P.slot n j) (Child d) e in
      let gone = shut_at j (omega arith) a (λ o x y (z : P.slot n j ≡ sibling_word o). omega arith) in
      one_more j (Child d) lt e (child_not_held P n v j d e) gone
      (step_child P n v j d e lt gone.past (g.child j lt d e))
      (λ x. omega arith)

  walk : (j : ℕ) → j ≤ slots → At j
  walk zero h = inl (record {
    gone = gone_start P n v;
    free = λ i q. absurd (omega arith);
    none = λ i q. absurd (omega arith);
  })
  walk (suc j) h =
      let d : j + 1 ≡ suc j = omega arith in
      subst At d (on_with j (omega arith) (walk j (omega arith)) (slot_at P n j) refl)

  pub seen_ok : SlotsOk P n v
  seen_ok = (shut_at slots (omega arith) (walk slots (omega arith)) (λ o x y. absurd (omega arith))).ok
