-- A text in braces at a place.
-- Assumes nothing.
use Prim.Native.Nat.{ℕ, ◌+◌, ◌-◌, ◌≤◌, ◌<◌}
use mathlib.Core.Path.{◌≡◌, refl, ap, ◌∙◌}
use mathlib.Core.Bool.{true, false}
use mathlib.Core.List.{List, ◌∷◌}
use Rattle.std.specs.Prelude.{Option, None, Some}
use native.Mathlib.Omega.{arith}
use native.Mathlib.Decide.{dec_lt}
use borrow.Author.Tests.{ne_eqb, le-leb, lt-leb}
use lib.ListN.{length, get_or, take, drop, drop_of_length-le, length-drop}
use lib.Seq.{length-take-le}
use Rattle.lists.specs.Lists.{pick}
use Rattle.lists.specs.Bytes.{between}
use Rattle.lists.specs.Items.{is_in_braces, close_brace, in_braces}
use Rattle.lists.proofs.Rest.{rest_at, byte_in}
use Rattle.lists.proofs.Runs.{run_at, rest_of}
use Rattle.scan.specs.Ends.{RunEnd, is_not}
use Rattle.template.specs.Template.{Piece, inside, starts_brace, text_in, with_text}
use Rattle.pieces.specs.Read.{fault, piece, item_read, text_told, TextWithin}
use Rattle.pieces.specs.declared.Text.{Text}

module _ (t : List ℕ) (i : ℕ) where
  -- the byte at a place, if it is not NUL, and what is behind it
  pub open_at : (b : ℕ) → get_or t i 0 ≡ b → 0 < b → drop i t ≡ b ∷ drop (i + 1) t
  open_at b e h = rw (rest_at t i (byte_in t i b e h), e)

  -- whether a brace opens
  pub brace_here : get_or t i 0 ≡ 123 → starts_brace (drop i t) ≡ true
  brace_here e = rw (open_at 123 e (omega arith))

  pub brace_none : (get_or t i 0 ≡ 123 → ⊥) → starts_brace (drop i t) ≡ false
  brace_none n = go (dec_lt i (length t))
    where
      go : Dec (i < length t) → starts_brace (drop i t) ≡ false
      go (yes h) = rw (rest_at t i h, ne_eqb (get_or t i 0) 123 n)
      go (no h) = rw (drop_of_length-le t {i = i} (omega arith))

  pub text-none : (get_or t i 0 ≡ 123 → ⊥) → text_in (drop i t) ≡ None
  text-none n = go (dec_lt i (length t))
    where
      go : Dec (i < length t) → text_in (drop i t) ≡ None
      go (yes h) = rw (rest_at t i h, ne_eqb (get_or t i 0) 123 n)
      go (no h) = rw (drop_of_length-le t {i = i} (omega arith))

  module _ (here : get_or t i 0 ≡ 123) (e : ℕ) (end : RunEnd (is_not 125) t (i + 1) e) where
    closes : text_in (drop i t) ≡ inside (close_brace (take (e - (i + 1)) (drop (i + 1) t)) (drop e t))
    unfolding in_braces
    closes = rw (open_at 123 here (omega arith), run_at is_in_braces t (i + 1), rest_of is_in_braces t (i + 1), ← end.place)

    pub text_open : length t ≤ e → text_in (drop i t) ≡ None
    text_open h = closes ∙ rw (drop_of_length-le t {i = e} h)

    module _ (h : e < length t) where
      text-size : length (take (e - (i + 1)) (drop (i + 1) t)) ≡ e - (i + 1)
      text-size = length-take-le (e - (i + 1)) (drop (i + 1) t) (omega (arith, length-drop (i + 1) t, end.from))

      pub text-closed : text_in (drop i t) ≡ inside (pick (between 1 64 (e - (i + 1))) (Some (record { value = take (e - (i + 1)) (drop (i + 1) t); rest = drop (e + 1) t })) None)
      text-closed = closes ∙ rw (rest_at t e h, text-size)

      pub text-fits : 1 ≤ e - (i + 1) → e - (i + 1) ≤ 64 → text_in (drop i t) ≡ Some (take (e - (i + 1)) (drop (i + 1) t))
      text-fits a b = text-closed ∙ rw (le-leb 1 (e - (i + 1)) a, le-leb (e - (i + 1)) 64 b)

      pub text-empty : e - (i + 1) < 1 → text_in (drop i t) ≡ None
      text-empty a = text-closed ∙ rw (lt-leb 1 (e - (i + 1)) a)

      pub text_long : 1 ≤ e - (i + 1) → 64 < e - (i + 1) → text_in (drop i t) ≡ None
      text_long a b = text-closed ∙ rw (le-leb 1 (e - (i + 1)) a, lt-leb (e - (i + 1)) 64 b)

-- ---- a piece with its text

-- the place behind it
pub braced_read : (f : List ℕ → Piece) (t : List ℕ) (i start len : ℕ) → start ≡ i + 1 → start + len < length t
    → piece (f (take len (drop start t))) (start + len + 1) ≡ item_read (with_text f 0 (Some (take len (drop start t)))) i
braced_read f t i start len e h =
    let k : length (take len (drop start t)) ≡ len = length-take-le len (drop start t) (omega (arith, length-drop start t)) in
    let z : start + len + 1 ≡ i + (0 + length (take len (drop start t)) + 2) = omega arith in
    ap (piece (f (take len (drop start t)))) z

-- behind a name of n bytes
pub braced-behind : (f : List ℕ → Piece) (n i : ℕ) (o : Option (List ℕ)) → item_read (with_text f 0 o) (i + n) ≡ item_read (with_text f n o) i
braced-behind f n i None = refl
braced-behind f n i (Some text) = let z : i + n + (0 + length text + 2) ≡ i + (n + length text + 2) = omega arith in ap (piece (f text)) z

-- ---- a text that was looked for at a place

-- it was found, and a piece of it stands there
pub record Braced (f : List ℕ → Piece) (t : List ℕ) (i start len : ℕ) : Type 0 where
  pub begins : start ≡ i + 1
  pub ends : start + len < length t
  pub read : piece (f (take len (drop start t))) (start + len + 1) ≡ item_read (with_text f 0 (text_in (drop i t))) i

module _ (f : List ℕ → Piece) (t : List ℕ) (i : ℕ) where
  pub text-found : (x : Text) → text_told (Some x) t ≡ text_in (drop i t) → TextWithin (Some x) t i → Braced f t i x.start x.len
  text-found x is within = record {
    begins = within.0;
    ends = within.1;
    read = braced_read f t i x.start x.len within.0 within.1 ∙ ap (λ o. item_read (with_text f 0 o) i) is;
  }

  pub text_missing : None ≡ text_in (drop i t) → fault ≡ item_read (with_text f 0 (text_in (drop i t))) i
  text_missing is = ap (λ o. item_read (with_text f 0 o) i) is
