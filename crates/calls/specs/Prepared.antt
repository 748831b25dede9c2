-- What preparing a command is worth beside running it (R334): what a host holds after answer 0, and what applying it comes to however
-- often the power went.
use Rattle.std.specs.Prelude.{ℕ, ◌≡◌, List, get_or, take, drop}
use Rattle.answers.specs.Answers.{result_of}
use Rattle.script.specs.Script.{script, apply_answer, apply_words}
use Rattle.script.specs.Claims.{Rising, cut_off, wrote_some, Partly}
use Rattle.preparing.specs.Prepare.{prepare}
use Rattle.calls.specs.Calls.{run}

-- R332: the first words of the slice, as many as the number says
abbrev pub prepared : (pool bytes slice : List ℕ) → List ℕ
prepared ws bs out = take (prepare ws bs out).result.number (prepare ws bs out).slice

-- a pool of words ws, the bytes bs of a record, a slice `out` for its script, and a reply space rs for a run of it
module _ (ws bs out rs : List ℕ) where
  -- the words that a run of that record leaves
  abbrev pub uncut : List ℕ
  uncut = (run ws bs rs).words

  -- R329, R333: they are the script of that run, and the rest of the slice stays; the run is done, with answer 0 in its reply (R49)
  pub record PreparedIs : Type 0 where
    pub first : prepared ws bs out ≡ script ws uncut
    pub rest : drop (prepare ws bs out).result.number (prepare ws bs out).slice ≡ drop (prepare ws bs out).result.number out
    pub ran : (run ws bs rs).result ≡ result_of 0 1
    pub replied : get_or (run ws bs rs).reply 3 0 ≡ 0

  -- applying what was prepared to some words is done, and leaves exactly the words of the run
  pub record Finishes (v : List ℕ) : Type 0 where
    pub answer : apply_answer v (prepared ws bs out) ≡ 0
    pub words : apply_words v (prepared ws bs out) ≡ uncut

  -- R334: places rise; it finishes from the pool as it was; cut after any number of writes, any number of times; after any of its writes,
  -- in any order; and from whatever stands in the words that it writes
  pub record Promise : Type 0 where
    pub rises : Rising 0 (prepared ws bs out)
    pub at_once : Finishes ws
    pub cut : (ks : List ℕ) → Finishes (cut_off ks ws (prepared ws bs out))
    pub some : (ks : List ℕ) → Finishes (wrote_some ks ws (prepared ws bs out))
    pub torn : (v : List ℕ) → Partly ws uncut v → Finishes v
