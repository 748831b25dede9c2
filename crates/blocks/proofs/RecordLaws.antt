-- Words in records: the place of each, and what all of them are.
use Prim.Native.Nat.{ℕ, suc, ◌+◌, ◌*◌, ◌-◌, ◌/◌, ◌%◌, ◌≤◌, ◌<◌}
use mathlib.Core.Path.{◌≡◌, sym, ap, subst, ◌∙◌}
use mathlib.Core.List.{List}
use native.Mathlib.Omega.{arith}
use native.Mathlib.Nat.{zero-add, mod-lt, div-add-mod, div-eq_of_lt, mod-eq_of_lt, mul-add-div, mul-suc, mul-le-mul_left, add-mul-mod_self_left}
use lib.Dec.{ltb}
use lib.ListN.{length, get_or}
use lib.Seq.{ext_get_or}
use borrow.Author.Tests.{ltb-true, ltb-false, lt-ltb, le-ltb}
use Rattle.blocks.specs.Records.{words_of, place, record_of, field_in, word_at, render}
use Rattle.blocks.proofs.BoolLaws.{by_t}
use Rattle.blocks.proofs.UpToLaws.{length_up_to, get_d_up_to}

module _ (a w : ℕ) (some : 1 ≤ w) where
  -- THE PLACE OF A WORD
  past : (n f : ℕ) → place a w n f - a ≡ w * n + f
  past n f = omega arith

  pub record_is : (n f : ℕ) → f < w → record_of a w (place a w n f) ≡ n
  record_is n f h =
      ap (λ (x : ℕ). x / w) (past n f)
      ∙ mul-add-div some n f
      ∙ let z : f / w ≡ 0 = div-eq_of_lt h in omega arith

  pub field_is : (n f : ℕ) → f < w → field_in a w (place a w n f) ≡ f
  field_is n f h =
      let e : w * n + f ≡ f + w * n = omega arith in
      ap (λ (x : ℕ). x % w) (past n f ∙ e) ∙ add-mul-mod_self_left f w n ∙ mod-eq_of_lt h

  pub field_lt : (i : ℕ) → field_in a w i < w
  field_lt i = mod-lt (i - a) some

  pub place_is : (i : ℕ) → a ≤ i → place a w (record_of a w i) (field_in a w i) ≡ i
  place_is i h =
      let d : w * ((i - a) / w) + (i - a) % w ≡ i - a = div-add-mod (i - a) w in omega arith

  pub record_lt : (n i : ℕ) → a ≤ i → i < words_of a w n → record_of a w i < n
  record_lt n i h g = by_t (ltb (record_of a w i) n) (ltb-true _ _)
      (λ t. let l : n ≤ (i - a) / w = ltb-false _ _ t in
      let m : w * n ≤ w * ((i - a) / w) = mul-le-mul_left w l in
      let d : w * ((i - a) / w) + (i - a) % w ≡ i - a = div-add-mod (i - a) w in absurd (omega arith))

  pub place_lt : (n m f : ℕ) → m < n → f < w → place a w m f < words_of a w n
  place_lt n m f h g =
      let l : w * suc m ≤ w * n = mul-le-mul_left w (omega arith) in
      let e : w * suc m ≡ w * m + w = mul-suc w m in omega arith

  -- ALL WORDS
  module _ (anchor : ℕ → ℕ) (field : ℕ → ℕ → ℕ) (n : ℕ) where
    pub render_long : length (render a w anchor field n) ≡ words_of a w n
    render_long = length_up_to (word_at a w anchor field) 0 (words_of a w n)

    pub render_word : (i : ℕ) → i < words_of a w n → get_or (render a w anchor field n) i 0 ≡ word_at a w anchor field i
    render_word i h =
        get_d_up_to (word_at a w anchor field) 0 (words_of a w n) i h ∙ ap (word_at a w anchor field) (zero-add i)

    pub render_anchor : (i : ℕ) → i < a → get_or (render a w anchor field n) i 0 ≡ anchor i
    render_anchor i h = render_word i (omega arith) ∙ rw (lt-ltb i a h)

    pub render_record : (m f : ℕ) → m < n → f < w → get_or (render a w anchor field n) (place a w m f) 0 ≡ field m f
    render_record m f h g =
        render_word (place a w m f) (place_lt n m f h g)
        ∙ rw (le-ltb (place a w m f) a (omega arith), record_is m f g, field_is m f g)

    -- words are these where the anchor's are, and each record's
    pub render_is : (ws : List ℕ) → length ws ≡ words_of a w n → ((i : ℕ) → i < a → get_or ws i 0 ≡ anchor i) →
        ((m f : ℕ) → m < n → f < w → get_or ws (place a w m f) 0 ≡ field m f) → ws ≡ render a w anchor field n
    render_is ws len on each =
        ext_get_or 0 ws (render a w anchor field n) (len ∙ sym render_long)
        (λ i h. let lt : i < words_of a w n = omega arith in word i lt ∙ sym (render_word i lt))
      where
        word : (i : ℕ) → i < words_of a w n → get_or ws i 0 ≡ word_at a w anchor field i
        word i h = by_t (ltb i a) (λ t. rw t (on i (ltb-true _ _ t)))
            (λ t. let g : a ≤ i = ltb-false _ _ t in
            rw t (subst (λ (x : ℕ). get_or ws x 0 ≡ field (record_of a w i) (field_in a w i)) (place_is i g)
            (each (record_of a w i) (field_in a w i) (record_lt n i g h) (field_lt i))))
