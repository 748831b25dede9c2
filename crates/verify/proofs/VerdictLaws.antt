-- What the pass over the nodes finds makes the verdict.
use Prim.Native.Nat.{ℕ, ◌^◌, ◌<◌}
use mathlib.Core.Path.{◌≡◌, sym, ap, subst, ◌∙◌}
use mathlib.Core.List.{List}
use lib.ListN.{get_or}
use Rattle.layout.specs.Words.{pool_words, count_word, head_word, spare_word}
use Rattle.layout.specs.Places.{Places, number_in}
use Rattle.layout.specs.Pool.{slot_of, pool_of}
use Rattle.layout.specs.Decode.{list_of, places_of}
use Rattle.layout.specs.WellFormed.{Sized, Prescribed}
use Rattle.decode.proofs.Restrict.{num_of, Prescribes}
use Rattle.decode.proofs.SameTree.{lower}
use Rattle.decode.proofs.PrescribedWords.{count_is, spare_is, from_places}
use Rattle.decode.proofs.PlacesFor.{to_places, places}
use Rattle.decode.proofs.DecodeLaws.{decode_places}
use Rattle.local.specs.Local.{NodeOk, NodesOk, HeadOk}
use Rattle.scan.proofs.HeadLaws.{none_fails}
use Rattle.local.proofs.SoundLaws.{local_sound}
use Rattle.local.proofs.ExactLaws.{exact_node, exact_head}
use Rattle.verify.specs.Answers.{Verdict, malformed, well_formed_lem}

module _ (ws : List ℕ) (n : ℕ) (sz : Sized n ws) where
  pub bad_count : (get_or ws count_word 0 ≡ n → ⊥) → Verdict ws 2
  bad_count f = malformed n sz (λ l os S. f (count_is n l os ws S))

  pub bad_spare : (get_or ws spare_word 0 ≡ 0 → ⊥) → Verdict ws 2
  bad_spare f = malformed n sz (λ l os S. f (spare_is n l os ws S))

  pub bad_node : (NodesOk ws → ⊥) → Verdict ws 2
  bad_node f =
      malformed n sz (λ l os S. none_fails (NodeOk (pool_of ws)) (get_or ws count_word 0)
      (exact_node (pool_of ws) l (lower (number_in os)) (from_places n l os ws S)) f)

  pub bad_head : (HeadOk (pool_of ws) (slot_of (get_or ws head_word 0)) → ⊥) → Verdict ws 2
  bad_head f =
      malformed n sz (λ l os S. f (exact_head (pool_of ws) l (lower (number_in os)) (from_places n l os ws S)))

  pub all_good : ((i : ℕ) → get_or ws i 0 < 2 ^ 64) → get_or ws count_word 0 ≡ n → get_or ws spare_word 0 ≡ 0 → NodesOk ws →
      HeadOk (pool_of ws) (slot_of (get_or ws head_word 0)) → Verdict ws 0
  all_good fit count spare nodes head =
      well_formed_lem n sz (subst (λ (k : ℕ). Prescribed k (list_of ws) (places_of ws) ws) count decoded)
    where
      R : Prescribes (pool_of ws) (list_of ws) (num_of (pool_of ws))
      R = local_sound (pool_of ws) (record {
        fits = record { of_slot = λ n j. fit _; of_mark = λ n μ. fit _; of_head = fit 1 };
        nodes = nodes;
        head_ok = head;
      })

      S : Prescribed (get_or ws count_word 0) (list_of ws) (places ws (list_of ws) (num_of (pool_of ws)) R) ws
      S = to_places ws (list_of ws) (num_of (pool_of ws)) R (sz.size ∙ ap pool_words (sym count)) spare

      decoded : Prescribed (get_or ws count_word 0) (list_of ws) (places_of ws) ws
      decoded =
          subst (λ (p : Places). Prescribed (get_or ws count_word 0) (list_of ws) p ws) (sym (decode_places S)) S
