-- The script of a store that may free nodes, node by node.
use Prim.Native.Nat.{ℕ, ◌+◌, ◌-◌, ◌≤◌, ◌<◌}
use mathlib.Core.Path.{◌≡◌, refl, sym, ap, subst, ◌∙◌}
use mathlib.Core.List.{List}
use native.Mathlib.Omega.{arith}
use lib.ListN.{length, get_or, replicate, get_or-replicate}
use Rattle.tree.specs.Tree.{slot_bits}
use Rattle.layout.specs.Words.{anchor_words, node_words, pool_words, place, node_of, field_in, count_word}
use Rattle.layout.specs.WellFormed.{WellFormed}
use Rattle.layout.proofs.RenderWordLaws.{pool_length_lem}
use Rattle.freemap.specs.FreeMap.{map_bit}
use Rattle.script.specs.Script.{script}
use Rattle.script_table.specs.Table.{row_count, Tables, Agrees, Wrote}
use Rattle.script_table.proofs.LaidLaws.{script_start, script_end}
use Rattle.script_table.proofs.TableLaws.{after, skip, NoneBelow}
use Rattle.script_wide.specs.Freed.{Gone, Freed, AllFreed, Counted}
use Rattle.script_wide.specs.Going.{Clear, WideBy}
use Rattle.script_wide.specs.Wide.{NoRow, Wide}
use Rattle.script_wide.proofs.ClimbLaws.{at_fits}
use Rattle.script_wide.proofs.GoesLaws.{goes_node}

-- COUNTING
pub counted_then : {ws ws' : List ℕ} {p q z k x r : ℕ} → Counted ws ws' p q k x → Counted ws ws' q z x r → Counted ws ws' p z k r
counted_then a b = record { sum = b.sum ∙ a.sum }

pub counted_pass : {ws ws' : List ℕ} (p z k : ℕ) → after ws ws' (length ws) p ≡ after ws ws' (length ws) z → Counted ws ws' p z k k
counted_pass p z k e = record { sum = ap (λ (q : List ℕ). k + length q) (sym e) }

pub counted_all : {ws ws' : List ℕ} {p r : ℕ} → Counted ws ws' 0 p 0 r → length ws ≤ p → r ≡ length (script ws ws')
counted_all {ws} {ws'} {p} {r} c h = omega (
  arith,
  c.sum,
  ap length (script_end ws ws' (length ws) p h),
  ap length (script_start ws ws' (length ws) refl),
)

-- the places of one node
node_places : (m : ℕ) → pool_words m + node_words ≡ pool_words (m + 1)
node_places m = omega arith

pub node_counted : {ws ws' : List ℕ} (m : ℕ) {k r : ℕ} →
    r + length (after ws ws' (length ws) (pool_words m + node_words)) ≡ k + length (after ws ws' (length ws) (pool_words m)) →
    Counted ws ws' (pool_words m) (pool_words (m + 1)) k r
node_counted {ws} {ws'} m {k} {r} e =
    subst (λ (p : ℕ). Counted ws ws' (pool_words m) p k r) (node_places m) (record { sum = e })

pub node_wrote : {ws ws' : List ℕ} (m : ℕ) {t r : ℕ} {out out' : List ℕ} →
    Wrote ws ws' (pool_words m) (pool_words m + node_words) t r out out' → Wrote ws ws' (pool_words m) (pool_words (m + 1)) t r out out'
node_wrote {ws} {ws'} m {t} {r} {out} {out'} w = subst (λ (p : ℕ). Wrote ws ws' (pool_words m) p t r out out') (node_places m) w

-- those of the anchor
pub anchor_counted : {ws ws' : List ℕ} {r : ℕ} →
    r + length (after ws ws' (length ws) (0 + anchor_words)) ≡ 0 + length (after ws ws' (length ws) 0) →
    Counted ws ws' 0 (pool_words 0) 0 r
anchor_counted e = record { sum = e }

pub anchor_wrote : {ws ws' : List ℕ} {r : ℕ} {out out' : List ℕ} → Wrote ws ws' 0 (0 + anchor_words) 0 r out out' →
    Wrote ws ws' 0 (pool_words 0) 0 r out out'
anchor_wrote w = w

-- NODES WITHOUT A ROW
pub zeros_agree : {ws' : List ℕ} {m : ℕ} → Gone ws' m → Agrees ws' (replicate node_words 0) (pool_words m) 0 node_words
zeros_agree g = record { words = λ t lt. g.zeros t lt ∙ sym (get_or-replicate node_words (0 + t) 0 0 (omega arith)) }

module _ {ws ms ws' : List ℕ} {m m' : ℕ} (d : AllFreed ws ms ws' m m') where
  -- those before the next that goes stay
  pub stays_pass : {x r : ℕ} → pool_words m' ≤ length ws → m ≤ x → x ≤ r → r ≤ m' → Clear ms x r →
      after ws ws' (length ws) (pool_words x) ≡ after ws ws' (length ws) (pool_words r)
  stays_pass {x} {r} h l past most g =
      let z : pool_words x + (pool_words r - pool_words x) ≡ pool_words r = omega (arith, past) in
      skip ws ws' (length ws) (pool_words r - pool_words x) (pool_words x) (omega (arith, past, most))
      (λ t lt.
      let a : x ≤ node_of (pool_words x + t) = omega arith in
      let b : node_of (pool_words x + t) < r = omega arith in
      let e : place (node_of (pool_words x + t)) (field_in (pool_words x + t)) ≡ pool_words x + t = omega arith in
      subst (λ (p : ℕ). get_or ws' p 0 ≡ get_or ws p 0) e
      ((d.each (node_of (pool_words x + t)) (omega arith) (omega (arith, most))).rest (g.each (node_of (pool_words x + t)) a b)
      (field_in (pool_words x + t)) (omega arith)))
      ∙ ap (after ws ws' (length ws)) z

  -- and the next goes
  pub next_gone : {x r : ℕ} → m ≤ x → (x ≤ r) × (r < m') × (map_bit ms r ≡ 1) × Clear ms x r → Gone ws' r
  next_gone {x} {r} l g = (d.each r (omega (arith, g.0)) g.1).gone g.2

-- A NODE WITH A ROW, OR NONE
module _ {ws rs ns ms ws' : List ℕ} (W : WideBy ws rs ns ms ws') where
  wide_freed : {m : ℕ} → m < get_or ws count_word 0 → NoRow ns m → Freed ws ms ws' m
  wide_freed {m} h n = record { gone = λ b. record { zeros = W.gone m h n b }; rest = W.rest m h n }

  pub wide_one : {m : ℕ} → m < get_or ws count_word 0 → NoRow ns m → AllFreed ws ms ws' m (m + 1)
  wide_one {m} h n = record {
    each = λ x a b. let e : m ≡ x = omega arith in subst (Freed ws ms ws') e (wide_freed h n);
  }

  -- the nodes before the next with a row
  pub wide_next : {n m m' : ℕ} → n ≡ get_or ws count_word 0 → m' ≤ n → NoneBelow ns m m' → AllFreed ws ms ws' m m'
  wide_next {n} {m} {m'} e most x = record {
    each = λ y a b. wide_freed (omega (arith, most)) (λ r lt q. omega (arith, x.between r lt (omega arith)));
  }

  pub wide_row : {m r : ℕ} → m < get_or ws count_word 0 → r < row_count → get_or ns r 0 ≡ m → Agrees ws' rs (pool_words m) (pool_words r) node_words
  wide_row {m} {r} h g e = record {
    words = λ t lt. subst (λ (x : ℕ). get_or ws' (place x t) 0 ≡ get_or rs (place r t) 0) e
        (W.row r g (subst (λ (x : ℕ). x < get_or ws count_word 0) (sym e) h) t lt);
  }

  pub wide_anchor : Agrees ws' rs 0 0 anchor_words
  wide_anchor = record {
    words = λ t lt. let a : 0 + t ≡ t = omega arith in
        subst (λ (x : ℕ). get_or ws' x 0 ≡ get_or rs x 0) (sym a) (W.anchor t lt);
  }

-- a range within one slot of a lowest node holds no node
pub wide_narrow : {ws rs ns ws' : List ℕ} {s : WellFormed ws} {i k : ℕ} → Wide s rs ns ws' i k → k < slot_bits → Tables ws rs ns ws' s.n
wide_narrow {s = s} W h = record {
  size = pool_length_lem s;
  anchor = W.anchor;
  row = W.row;
  rest = λ m lt n. W.rest m lt n (λ g. omega (arith, g.low, (at_fits s (goes_node g)).1));
}
