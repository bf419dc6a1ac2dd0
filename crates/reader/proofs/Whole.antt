-- A whole text: 2, then its lines, then 19.
-- Assumes nothing.
use Prim.Native.Nat.{ℕ, ◌≤◌, ◌<◌}
use mathlib.Core.Path.{◌≡◌}
use mathlib.Core.List.{List}
use borrow.Author.Tests.{le-leb, lt-leb}
use lib.ListN.{length}
use Rattle.lists.specs.Checked.{refused, ok, Placed, line}
use Rattle.lists.specs.Refusal.{Refusal, text_long}
use Rattle.lists.specs.Sizes.{most_text}
use Rattle.text.specs.Reading.{settle, read_text}
use Rattle.rules.specs.Pair.{Rule}
use Rattle.rules.specs.Reading.{reader}
use Rattle.reader.specs.Read.{collected}

module _ (t : List ℕ) where
  pub text_too_long : most_text < length t → read_text reader t ≡ refused (line 0 text_long)
  unfolding read_text
  text_too_long h = rw (lt-leb (length t) most_text h)

  module _ (h : length t ≤ most_text) where
    pub text-refused : (n : ℕ) (f : Refusal) → collected t ≡ refused (line n f) → read_text reader t ≡ refused (line n f)
    unfolding read_text
    text-refused n f e = rw (le-leb (length t) most_text h, e)

    module _ (rs : List (Placed Rule)) (e : collected t ≡ ok rs) where
      pub text_settled : settle reader rs ≡ ok 0 → read_text reader t ≡ ok rs
      unfolding read_text
      text_settled s = rw (le-leb (length t) most_text h, e, s)

      pub text_unsettled : (n : ℕ) (f : Refusal) → settle reader rs ≡ refused (line n f) → read_text reader t ≡ refused (line n f)
      unfolding read_text
      text_unsettled n f s = rw (le-leb (length t) most_text h, e, s)
