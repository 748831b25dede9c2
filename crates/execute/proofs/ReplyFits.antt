-- Every reply's fields fit their widths, so that `encode` cuts nothing (R49).
use Prim.Native.Nat.{ℕ, zero, suc, ◌^◌, ◌≤◌, ◌<◌}
use mathlib.Core.Path.{◌≡◌, refl}
use mathlib.Core.Bool.{not}
use mathlib.Core.List.{List}
use mathlib.Core.Option.{Option, none, some}
use native.Mathlib.Omega.{arith}
use lib.Dec.{leb, ltb, eqb}
use borrow.Author.Tests.{ltb-false}
use Rattle.blocks.specs.Lists.{In}
use Rattle.blocks.specs.Blocks.{block}
use Rattle.blocks.proofs.BoolLaws.{by_t}
use Rattle.blocks.proofs.ListLaws.{first_yes, each, look}
use Rattle.model.specs.declared.Entry.{Entry}
use Rattle.model.specs.Model.{EntryOk, Valid, storable, reserved_word, reserved, present, max_order, aligned, mark_count, covers, covering, store}
use Rattle.model.proofs.ValidLaws.{sorted_ok}
use Rattle.model.proofs.WordLaws.{present_some}
use Rattle.tree.specs.Tree.{has, height, tier_order, top_tier}
use Rattle.lookup.specs.Load.{depth, depth_to}
use Rattle.lookup.specs.declared.Outcome.{Outcome}
use Rattle.lookup.specs.Find.{any_mark, meets}
use Rattle.lookup.proofs.FindLaws.{Right, right_found, right_ended, right_paused, find_right}
use Rattle.tree.proofs.HeightLaws.{height_most}
use Rattle.batch.specs.declared.Command.{Command}
use Rattle.batch.specs.declared.Command.TheVariants.{Store, Load, Erase, Mark, Unmark, Find, Reserve}
use Rattle.batch.specs.Reply.{answered, answered_by, store_reply, load_reply, erase_reply, mark_reply, unmark_reply, find_reply, reserve_reply}
use Rattle.batch.specs.Fits.{Fits}
use Rattle.execute.specs.Execute.{execute, finding, short, tree}
use Rattle.commands.specs.Commands.{reply_of, reserving}
use Rattle.execute.specs.Widths.{FitsReply}
use Rattle.execute.proofs.ExecuteLaws.{execute_keeps}

plain : (t a i n : ℕ) → t < 256 → a < 256 → i < 256 ^ 8 → n < 256 ^ 2 → FitsReply (answered t a i n)
plain t a i n t< a< i< n< = record {
  tag_fits = t<;
  answer_fits = a<;
  index_fits = i<;
  order_fits = omega arith;
  word_fits = omega arith;
  marks_fit = omega arith;
  count_fits = n<;
}

-- no field but the answer
bare : (t a : ℕ) → t < 256 → a < 256 → FitsReply (answered t a 0 0)
bare t a t< a< = plain t a 0 0 t< a< (omega arith) (omega arith)

depth_le : (l : List Entry) (i u : ℕ) → depth_to l i u ≤ u
unfolding depth_to
depth_le l i zero = omega arith
depth_le l i (suc u) =
    by_t (has l (suc u) (block (tier_order (suc u)) i)) (λ t. rw t (omega (arith, depth_le l i u)))
    (λ t. rw t (omega (arith, depth_le l i u)))

module _ {l : List Entry} (v : Valid l) (t : ℕ) (t< : t < 256) where
  entry_fits_lem : (e : Entry) (n : ℕ) → In e l → n < 256 ^ 2 → FitsReply (answered_by t e n)
  entry_fits_lem e n m n< =
      let ok : EntryOk e = look (sorted_ok v) m in
      record {
        tag_fits = t<;
        answer_fits = omega arith;
        index_fits = ok.in_range;
        order_fits = omega (arith, ok.order_le);
        word_fits = by_t (reserved e) (λ r. rw r (omega arith)) (λ r. rw r ok.word_fits);
        marks_fit = omega (arith, ok.marks_fit);
        count_fits = n<;
      }

  covered_fits : (i n : ℕ) → n < 256 ^ 2 → FitsReply (reply_of t n (covering l i))
  covered_fits i n n< = go (covering l i) refl
    where
      go : (o : Option Entry) → covering l i ≡ o → FitsReply (reply_of t n o)
      go none q = plain t 10 0 n t< (omega arith) (omega arith) n<
      go (some e) q = entry_fits_lem e n (first_yes (covers i) (each l (λ x m. m)) q).1 n<

  present_fits : (i n : ℕ) → n < 256 ^ 2 → FitsReply (reply_of t n (present (covering l i)))
  present_fits i n n< = go (present (covering l i)) refl
    where
      go : (o : Option Entry) → present (covering l i) ≡ o → FitsReply (reply_of t n o)
      go none q = plain t 10 0 n t< (omega arith) (omega arith) n<
      go (some e) q = entry_fits_lem e n (first_yes (covers i) (each l (λ x m. m)) (present_some (covering l i) q).0).1 n<

  found_fits : (a z f k : ℕ) → z < 256 ^ 8 → k < 256 ^ 2 → {o : Outcome} → Right l a z f k o → FitsReply (finding t o)
  found_fits a z f k z< k< (right_found e n q le _) =
      entry_fits_lem e n (first_yes (meets f a z) (each l (λ x m. m)) q).1 (omega arith)
  found_fits a z f k z< k< (right_ended n q le _) = plain t 12 0 n t< (omega arith) (omega arith) (omega arith)
  found_fits a z f k z< k< (right_paused p n lo hi s e _) =
      plain t 13 p n t< (omega arith) (omega arith) (omega arith)

module _ (n : ℕ) (l : List Entry) (v : Valid l) where
  load_fits : (i : ℕ) → FitsReply (execute n l (Load i)).reply
  unfolding execute
  load_fits i =
      let h : height l ≤ top_tier = height_most l in
      let d : depth_to l i (height l) ≤ height l = depth_le l i (height l) in
      present_fits v load_reply (omega arith) i (depth l i) (omega arith)

  erase_fits : (i : ℕ) → FitsReply (execute n l (Erase i)).reply
  unfolding execute
  erase_fits i = covered_fits v erase_reply (omega arith) i 0 (omega arith)

  store_fits : (i k w : ℕ) → Fits (Store i k w) → FitsReply (execute n l (Store i k w)).reply
  unfolding execute
  store_fits i k w f = go (execute_keeps n l v (Store i k w) f).valid
    where
      go : Valid (execute n l (Store i k w)).list → FitsReply (execute n l (Store i k w)).reply
      go u =
          by_t (ltb max_order k) (λ t. rw t (bare store_reply 5 (omega arith) (omega arith)))
          (λ t. by_t (not (aligned k i)) (λ a. rw (t, a) (bare store_reply 14 (omega arith) (omega arith)))
          (λ a. by_t (not (storable w)) (λ s. rw (t, a, s) (bare store_reply 6 (omega arith) (omega arith)))
          (λ s. by_t (short n l (store l i k w)) (λ d. rw (t, a, s, d) (bare store_reply 11 (omega arith) (omega arith)))
          (λ d. rw (t, a, s, d) (covered_fits (rw (t, a, s, d) at u) store_reply (omega arith) i 0 (omega arith))))))

  mark_fits : (i m : ℕ) → FitsReply (execute n l (Mark i m)).reply
  unfolding execute
  mark_fits i m = go (execute_keeps n l v (Mark i m) tt).valid
    where
      go : Valid (execute n l (Mark i m)).list → FitsReply (execute n l (Mark i m)).reply
      go u =
          by_t (leb mark_count m) (λ t. rw t (bare mark_reply 7 (omega arith) (omega arith)))
          (λ t. rw t (present_fits (rw t at u) mark_reply (omega arith) i 0 (omega arith)))

  unmark_fits : (i m : ℕ) → FitsReply (execute n l (Unmark i m)).reply
  unfolding execute
  unmark_fits i m = go (execute_keeps n l v (Unmark i m) tt).valid
    where
      go : Valid (execute n l (Unmark i m)).list → FitsReply (execute n l (Unmark i m)).reply
      go u =
          by_t (leb mark_count m) (λ t. rw t (bare unmark_reply 7 (omega arith) (omega arith)))
          (λ t. rw t (present_fits (rw t at u) unmark_reply (omega arith) i 0 (omega arith)))

  find_fits : (a z f k : ℕ) → z < 256 ^ 8 → k < 256 ^ 2 → FitsReply (execute n l (Find a z f k)).reply
  unfolding execute
  find_fits a z f k z< k< =
      by_t (ltb any_mark f) (λ t. rw t (bare find_reply 7 (omega arith) (omega arith)))
      (λ t. by_t (ltb z a) (λ s. rw (t, s) (bare find_reply 8 (omega arith) (omega arith)))
      (λ s. by_t (eqb k 0) (λ d. rw (t, s, d) (bare find_reply 9 (omega arith) (omega arith)))
      (λ d. rw (t, s, d)
      (found_fits v find_reply (omega arith) a z f k z< k< (find_right l v a z f k (ltb-false _ _ s))))))

  reserve_fits : (i : ℕ) → i < 2 ^ 64 → FitsReply (execute n l (Reserve i)).reply
  unfolding execute
  reserve_fits i i< = go (covering l i) refl (execute_keeps n l v (Reserve i) i<).valid
    where
      go : (o : Option Entry) → covering l i ≡ o → Valid (reserving (tree n) reserve_reply l i (covering l i)).list →
          FitsReply (reserving (tree n) reserve_reply l i (covering l i)).reply
      go (some e) q u = rw q (bare reserve_reply 15 (omega arith) (omega arith))
      go none q u =
          by_t (short n l (store l i 0 reserved_word)) (λ d. rw (q, d) (bare reserve_reply 11 (omega arith) (omega arith)))
          (λ d. rw (q, d) (covered_fits (rw (q, d) at u) reserve_reply (omega arith) i 0 (omega arith)))

  -- R49
  pub reply_fits : (c : Command) → Fits c → FitsReply (execute n l c).reply
  reply_fits (Store i k w) f = store_fits i k w f
  reply_fits (Load i) f = load_fits i
  reply_fits (Erase i) f = erase_fits i
  reply_fits (Mark i m) f = mark_fits i m
  reply_fits (Unmark i m) f = unmark_fits i m
  reply_fits (Find a z f k) b = find_fits a z f k b.0 b.1
  reply_fits (Reserve i) f = reserve_fits i f
