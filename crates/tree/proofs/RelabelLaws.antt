-- Storing over an entry, marking and unmarking: a map that keeps base and order keeps the tree.
use Prim.Native.Nat.{ℕ, ◌*◌, ◌^◌}
use mathlib.Core.Path.{◌≡◌, refl, ap, ◌∙◌}
use mathlib.Core.Bool.{Bool}
use mathlib.Core.List.{List, [], ◌∷◌, map}
use mathlib.Core.Option.{Option, none, some}
use Rattle.blocks.specs.Choice.{pick, both}
use Rattle.blocks.specs.Lists.{any, without}
use Rattle.blocks.proofs.BoolLaws.{by_t}
use Rattle.blocks.proofs.ListLaws.{each, without_all}
use Rattle.model.specs.declared.Entry.{Entry}
use Rattle.model.specs.Model.{covers, covering, starts, within, has_mark}
use Rattle.tree.specs.Tree.{has, height, tall, blocks, nodes, new_nodes, slot_mark, tier_order}
use Rattle.tree.specs.Slots.{Numbering, node_word, entry_word, slot}
use Rattle.tree.proofs.NodeListLaws.{nodes_in_lem, finer}
use Rattle.blocks.proofs.TierLaws.{blocks_map, nodes_from_same}

abbrev pub map_o : (Entry → Entry) → Option Entry → Option Entry
map_o f none = none
map_o f (some e) = some (f e)

module _ (f : Entry → Entry) (fb : (x : Entry) → (f x).base ≡ x.base) (fo : (x : Entry) → (f x).order ≡ x.order) where
  pub any_map : (p q : Entry → Bool) → ((x : Entry) → p (f x) ≡ q x) → (l : List Entry) → any p (map f l) ≡ any q l
  any_map p q h [] = refl
  any_map p q h (x ∷ l) = rw (h x, any_map p q h l)

  pub within_map : (j c : ℕ) (l : List Entry) → any (within j c) (map f l) ≡ any (within j c) l
  within_map j c l = any_map (within j c) (within j c) (λ x. rw (fb x, fo x)) l

  pub covering_map : (y : ℕ) (l : List Entry) → covering (map f l) y ≡ map_o f (covering l y)
  covering_map y [] = refl
  covering_map y (x ∷ l) =
      let e : covers y (f x) ≡ covers y x = rw (fb x, fo x) in
      by_t (covers y x) (λ t. rw (e ∙ t, t)) (λ t. rw (e ∙ t, t) (covering_map y l))

  tall_map : (x : Entry) → tall (f x) ≡ tall x
  unfolding tall
  tall_map x = rw (fb x, fo x)

  pub height_map : (l : List Entry) → height (map f l) ≡ height l
  height_map [] = refl
  height_map (x ∷ l) = rw (tall_map x, height_map l)

  pub has_map : (u b : ℕ) (l : List Entry) → has (map f l) u b ≡ has l u b
  unfolding has
  has_map u b l = rw (height_map l, within_map (tier_order u) b l)

  pub nodes_map : (l : List Entry) → nodes (map f l) ≡ nodes l
  nodes_map l = rw (height_map l) (nodes_from_same (λ u. blocks u (map f l)) (λ u. blocks u l)
      (λ u. blocks_map (λ e. e.base) finer f fb (λ j x. rw (fo x)) (tier_order u) l) (height l))

  -- after any change of the list, the same nodes are new
  pub new_nodes_then : (old l : List Entry) → new_nodes old (map f l) ≡ new_nodes old l
  new_nodes_then old l = ap (without (λ p. has old p.tier p.number)) (nodes_map l)

  pub new_nodes_map : (l : List Entry) → new_nodes l (map f l) ≡ []
  new_nodes_map l = rw (nodes_map l) (without_all (λ p. has l p.tier p.number)
      (each (nodes l) (λ p k. nodes_in_lem l k)))

  pub slot_map : (ν : Numbering) (u c : ℕ) (l : List Entry) →
      slot (map f l) ν u c ≡ pick (any (within (tier_order u) c) l) (node_word (ν u c))
      (entry_word u c (map_o f (covering l (c * 2 ^ (tier_order u)))))
  unfolding slot
  slot_map ν u c l = rw (within_map (tier_order u) c l, covering_map (c * 2 ^ (tier_order u)) l)

  pub mark_map : (m u c : ℕ) (l : List Entry) → ((x : Entry) → has_mark m (f x) ≡ has_mark m x) →
      slot_mark (map f l) m u c ≡ slot_mark l m u c
  unfolding slot_mark
  mark_map m u c l h =
      let p : Entry → Bool = λ e. both (starts (tier_order u) c e) (has_mark m e) in any_map p p (λ x. rw (fb x, h x)) l
