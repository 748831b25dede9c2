-- Lists in index order within bounds, and the indices that a slot covers.
use Prim.Native.Nat.{ℕ, zero, suc, ◌+◌, ◌*◌, ◌-◌, ◌/◌, ◌%◌, ◌^◌, ◌≤◌, ◌<◌}
use mathlib.Core.Path.{◌≡◌, refl, sym, ap, ◌∙◌}
use mathlib.Core.List.{List, [], ◌∷◌, ◌++◌}
use native.Mathlib.Omega.{arith}
use native.Mathlib.Nat.{mod-lt, mul-mod_left, div-add-mod', mul-le-mul_right}
use lib.Dec.{lit<, T}
use lib.Pow.{pow-add}
use borrow.Author.Tests.{ne_eqb}
use Rattle.blocks.specs.Blocks.{bit}
use Rattle.model.specs.declared.Entry.{Entry}
use Rattle.model.specs.Model.{is_word_ok}
use Rattle.tree.specs.Tree.{tier_order, slots, slot_bits}
use Rattle.layout.specs.declared.Slot.TheVariants.{Reserved, Held}
use Rattle.layout.specs.Pool.{slot_of, max_run}
use Rattle.layout.specs.Decode.{wide}
use Rattle.decode.proofs.Restrict.{Chain}
use Rattle.layout.proofs.SaysLaws.{word_of_lem}

pub wide_pow : (v : ℕ) → 2 ^ (tier_order v) ≡ wide v
wide_pow zero = refl
wide_pow (suc v) = let e : tier_order (suc v) ≡ tier_order v + 6 = omega arith in rw (e, pow-add, wide_pow v)

pub order_pow : (v r : ℕ) → 2 ^ (tier_order v + r) ≡ wide v * 2 ^ r
order_pow v r = pow-add 2 (tier_order v) r ∙ ap (λ (x : ℕ). x * 2 ^ r) (wide_pow v)

-- the slots of a node in parts of 2^r
pub in_parts : (r : ℕ) → r ≤ max_run → 2 ^ (slot_bits - r) * 2 ^ r ≡ slots
in_parts r h = let x : slot_bits - r + r ≡ slot_bits = omega arith in sym (pow-add 2 (slot_bits - r) r) ∙ ap
    (λ (x : ℕ). 2 ^ x) x

-- a slot that is a multiple of 2^r, of whichever node
pub slot_aligned : (v b j r : ℕ) → r ≤ max_run → j % 2 ^ r ≡ 0 → (slots * b + j) * wide v % 2 ^ (tier_order v + r) ≡ 0
slot_aligned v b j r h e =
    let d : j / 2 ^ r * 2 ^ r + j % 2 ^ r ≡ j = div-add-mod' j (2 ^ r) in
    let g : slots * b + j ≡ (2 ^ (slot_bits - r) * b + j / 2 ^ r) * 2 ^ r = omega (arith, ap (λ (x : ℕ). x * b) (in_parts r h)) in
    let f : (slots * b + j) * wide v ≡ (2 ^ (slot_bits - r) * b + j / 2 ^ r) * (wide v * 2 ^ r) = ap (λ (x : ℕ). x * wide v)
    g ∙ (omega arith) in
    rw (order_pow, f) (mul-mod_left (2 ^ (slot_bits - r) * b + j / 2 ^ r) (wide v * 2 ^ r))

pub chain_lower : (a b c : ℕ) (xs : List Entry) → a ≤ b → Chain b xs c → Chain a xs c
chain_lower a b c [] h p = omega arith
chain_lower a b c (x ∷ xs) h p = (omega arith, p.1, p.2)

pub chain_append : (a b c : ℕ) (xs ys : List Entry) → Chain a xs b → Chain b ys c → Chain a (xs ++ ys) c
chain_append a b c [] ys p q = chain_lower a b c ys p q
chain_append a b c (x ∷ xs) ys p q = (p.0, p.1, chain_append (x.base + 2 ^ x.order) b c xs ys p.2 q)

pub held_word : (e : Entry) → slot_of e.word ≡ Held → T (is_word_ok e)
held_word e k = let q = word_of_lem e.word Held k in rw (ne_eqb _ _ q.0, ne_eqb _ _ q.1) tt

pub reserved_word_lem : (e : Entry) → slot_of e.word ≡ Reserved → e.order ≡ 0 → e.marks ≡ 0 → T (is_word_ok e)
reserved_word_lem e k o m = rw (word_of_lem e.word Reserved k, o, m) tt

pub bit_lt : (j w : ℕ) → bit j w < 2
bit_lt j w = mod-lt (w / 2 ^ j) (lit< tt)

-- from slot numbers to indices
pub scale : (v a c : ℕ) → a ≤ c → a * wide v ≤ c * wide v
scale v a c h = mul-le-mul_right (wide v) h
