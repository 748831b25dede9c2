-- What the check looks at makes the words those that the decoded list prescribes.
use Prim.Native.Nat.{ℕ, ◌-◌, ◌≤◌, ◌<◌, ◌^◌}
use mathlib.Core.Path.{◌≡◌, refl, sym, ◌∙◌, subst}
use mathlib.Core.Logic.{⊎_elim}
use mathlib.Core.Bool.{true}
use mathlib.Core.List.{List, [], ◌∷◌}
use native.Mathlib.Omega.{arith}
use lib.Dec.{lit≤, lit<, T}
use borrow.Author.Tests.{le-ltb}
use Rattle.model.specs.declared.Entry.{Entry}
use Rattle.tree.specs.Tree.{height, tall}
use Rattle.tree.proofs.HeightLaws.{fits_i, fits_tall}
use Rattle.layout.specs.Pool.{Free, slot_of, Pool}
use Rattle.layout.specs.declared.Slot.{Slot}
use Rattle.layout.specs.declared.Slot.TheVariants.{Empty, Reserved, Held, Sibling, Child}
use Rattle.layout.specs.Decode.{list_in, list_for, level_of}
use Rattle.decode.proofs.Restrict.{has_level, num_of, NodeIs, Prescribes}
use Rattle.decode.proofs.KeepLaws.{no_both}
use Rattle.layout.proofs.SaysLaws.{word_of_lem}
use Rattle.decode.proofs.ChainLaws.{held_word, reserved_word_lem}
use Rattle.decode.proofs.FitLaws.{low_base}
use Rattle.local.specs.Local.{Live, Local, HeadNodeOk, AllFree, HeadOk, top_level}
use Rattle.local.proofs.StandingLaws.{decoded, At, here, at_num, at_same, at_there, climb}
use Rattle.local.proofs.HeightLaws.{decoded_height, decoded_valid, at_has, has_at_lem}
use Rattle.local.proofs.DecodedLaws.{node_is, mark_node}
use Rattle.model.proofs.MarkLaws.{marks_one}
use Rattle.model.specs.Model.{mark_count, is_word_ok}

module _ (P : Pool) (L : Local P) where
  module _ (h : ℕ) (head_is : slot_of P.head ≡ Child h) (H : HeadNodeOk P h) where
    tree_sound : Prescribes P (decoded P L h head_is H) (num_of P)
    tree_sound =
        record {
          valid = decoded_valid P L h head_is H;
          below = λ v b t. let a = has_at_lem P L h head_is H v b t in
              rw (at_num P L h head_is H a.0 v b a.1) (at_there P L h head_is H a.0 v b a.1);
          apart = λ v b v' b' t t' e.
              let a = has_at_lem P L h head_is H v b t in
              let a' = has_at_lem P L h head_is H v' b' t' in
              let q : a.0 ≡ a'.0 = sym (at_num P L h head_is H a.0 v b a.1) ∙ e ∙ at_num P L h head_is H
              a'.0 v' b' a'.1 in
              at_same P L h head_is H a'.0 v b v' b' (subst (λ (n : ℕ). At P h H.top n v b) q a.1) a'.1;
          nodes = λ v b t. let a = has_at_lem P L h head_is H v b t in
              subst (λ (n : ℕ). NodeIs P (decoded P L h head_is H) (num_of P) n v b)
              (sym (at_num P L h head_is H a.0 v b a.1)) (node_is P L h head_is H a.0 v b a.1);
          frees = λ n lt f. ⊎_elim (λ (z : Free P n). z)
              (λ (z : (v : ℕ) × Live P n v).
              let c = climb P L h head_is H (top_level - z.0) n z.0 (omega (arith, z.1.high)) z.1 in
              absurd (f z.0 c.0 (at_has P L h head_is H n z.0 c.0 c.1)
              (at_num P L h head_is H n z.0 c.0 c.1)))
              (L.nodes n lt);
          head_is = rw (decoded_height P L h head_is H, at_num P L h head_is H h H.top 0 here)
              (word_of_lem _ (Child h) head_is);
          marks_are = rw (
            mark_node P L 0 (lit< tt) H.top h 0 H.live,
            mark_node P L 1 (lit< tt) H.top h 0 H.live,
            mark_node P L 2 (lit< tt) H.top h 0 H.live,
          )
              H.marks_are;
        }

  no_tree : (e : Entry) → e.base ≡ 0 → e.order ≡ 0 → height (e ∷ []) ≡ 0
  no_tree e p q = let t : tall e ≤ 0 = fits_tall 0 e (fits_i 0 e (omega arith) (low_base 0 e.base (omega arith)))
      in omega arith

  none_has : (l : List Entry) (v b : ℕ) → height l ≡ 0 → has_level l v b ≡ true → ⊥
  none_has l v b e t = no_both t (rw (e, le-ltb v 0 (omega arith)))

  -- the head alone
  abbrev bare : Entry
  bare = record { base = 0; order = 0; word = P.head; marks = P.marks }

  lone : AllFree P → P.marks < 2 ^ mark_count → T (is_word_ok bare) → Prescribes P (bare ∷ []) (num_of P)
  lone free few word =
      record {
        valid = (
          omega arith,
          record {
            order_le = omega arith;
            aligned = refl;
            word_ok = word;
            word_fits = L.fits.of_head;
            marks_fit = few;
          },
          lit≤ tt,
        );
        below = λ v b t. absurd (none_has (bare ∷ []) v b (no_tree bare refl refl) t);
        apart = λ v b v' b' t t' q. absurd (none_has (bare ∷ []) v b (no_tree bare refl refl) t);
        nodes = λ v b t. absurd (none_has (bare ∷ []) v b (no_tree bare refl refl) t);
        frees = λ n lt f. free n lt;
        head_is = rw (no_tree bare refl refl);
        marks_are = sym (marks_one bare few);
      }

  at_head : (κ : Slot) → slot_of P.head ≡ κ → HeadOk P κ → Prescribes P (list_for P κ) (num_of P)
  at_head Empty e ok =
      record {
        valid = omega arith;
        below = λ v b t. absurd (none_has [] v b refl t);
        apart = λ v b v' b' t t' q. absurd (none_has [] v b refl t);
        nodes = λ v b t. absurd (none_has [] v b refl t);
        frees = λ n lt f. ok.0 n lt;
        head_is = word_of_lem _ Empty e;
        marks_are = ok.1;
      }
  at_head Reserved e ok = lone ok.0 (omega (arith, ok.1)) (reserved_word_lem bare e refl ok.1)
  at_head Held e ok = lone ok.0 ok.1 (held_word bare e)
  at_head (Sibling o) e ok = absurd ok
  at_head (Child h) e ok = let z : level_of P h ≡ ok.top = omega (arith, ok.live.level) in rw z (tree_sound h e ok)

  pub local_sound : Prescribes P (list_in P) (num_of P)
  local_sound = at_head (slot_of P.head) refl L.head_ok
