-- Names and letters behind their signs.
-- Assumes nothing.
use Prim.Native.Nat.{ℕ, ◌+◌, ◌≤◌, ◌<◌}
use mathlib.Core.Path.{◌≡◌, refl, sym, ◌∙◌}
use mathlib.Core.Bool.{Bool, true, false}
use mathlib.Core.List.{List, [], ◌∷◌}
use Rattle.std.specs.Prelude.{Option, None, Some}
use native.Mathlib.Omega.{arith}
use native.Mathlib.Decide.{dec_lt}
use borrow.Author.Tests.{ne_eqb}
use lib.Dec.{eqb}
use lib.ListN.{length, get_or, drop, drop_of_length-le}
use lib.Seq.{drop-drop}
use Rattle.lists.specs.Lists.{pick}
use Rattle.lists.specs.Bytes.{starts}
use Rattle.lists.specs.Quoted.{bytes}
use Rattle.lists.proofs.Rest.{rest_at, byte_in}
use Rattle.lists.proofs.Tests.{and_both}
use Rattle.template.specs.Template.{Piece, Named, plain, whole, braced, kernel, number, devpath, id, driver, major, minor, result, attr, env, names, letters, name_in, text_in, with_text, formed, named_piece}
use Rattle.pieces.specs.Read.{piece, fault, item_read, after_percent, after_dollar, if_named, meaning, PieceWithin, Ahead, FoundWithin}
use Rattle.pieces.specs.declared.Piece as P
use Rattle.pieces.specs.declared.PieceRead.{PieceRead}
use Rattle.pieces.proofs.Braces.{open_at, braced-behind}

-- a name that begins at a place ends inside
pub name-inside : (name bs : List ℕ) → starts name bs ≡ true → length name ≤ length bs
unfolding starts
name-inside [] bs e = omega arith
name-inside (x ∷ name) [] e = let z : ◌≡◌ {A = ℕ} 0 1 = cc in absurd (omega arith)
name-inside (x ∷ name) (y ∷ bs) e = let k = name-inside name bs (and_both (eqb x y) (starts name bs) e).1 in omega arith

-- a name of which all but a test is known
choose : (u : Bool) (name : List ℕ) (p : Piece) (bs : List ℕ) (i : ℕ) → item_read (named_piece (pick u (Some (record { name = name; form = plain p })) None) bs) i ≡ pick u (piece p (i + length name)) fault
choose true name p bs i = refl
choose false name p bs i = refl

choose_braced : (u : Bool) (name : List ℕ) (f : List ℕ → Piece) (bs : List ℕ) (i : ℕ)
    → item_read (named_piece (pick u (Some (record { name = name; form = braced f })) None) bs) i ≡ pick u (item_read (with_text f (length name) (text_in (drop (length name) bs))) i) fault
choose_braced true name f bs i = refl
choose_braced false name f bs i = refl

choose_whole : (u : Bool) (name : List ℕ) (p : Piece) (bs : List ℕ) (i : ℕ)
    → item_read (named_piece (pick u (Some (record { name = name; form = whole p })) None) bs) i ≡ pick u (item_read (formed (whole p) (length name) (drop (length name) bs)) i) fault
choose_whole true name p bs i = refl
choose_whole false name p bs i = refl

module _ (t : List ℕ) (i : ℕ) where
  -- a name whose first byte does not stand at a place
  not-begun : (x : ℕ) (name : List ℕ) → (get_or t i 0 ≡ x → ⊥) → starts (x ∷ name) (drop i t) ≡ false
  unfolding starts
  not-begun x name n = go (dec_lt i (length t))
    where
      go : Dec (i < length t) → starts (x ∷ name) (drop i t) ≡ false
      go (yes h) = rw (rest_at t i h, ne_eqb x (get_or t i 0) (λ e. n (sym e)))
      go (no h) = rw (drop_of_length-le t {i = i} (omega arith))

  -- one byte that stands in a table for a piece without a text
  pub one_byte : {b : ℕ} (table : List Named) (p : P.Piece) → get_or t i 0 ≡ b → 0 < b → PieceWithin p t
      → name_in table (b ∷ drop (i + 1) t) ≡ Some (record { name = b ∷ []; form = plain (meaning p t) })
      → (piece (meaning p t) (i + 1) ≡ item_read (named_piece (name_in table (drop i t)) (drop i t)) i) × Ahead p (i + 1) t i
  one_byte {b} table p e h w f =
      (rw (open_at t i b e h, f), record { forward = omega arith; inside = omega (arith, byte_in t i b e h); text = w })

  -- ---- letters that take a text

  pub letter_s : get_or t i 0 ≡ 115 → after_percent t i ≡ item_read (with_text attr 0 (text_in (drop (i + 1) t))) (i + 1)
  unfolding letters name_in starts
  letter_s e = rw (open_at t i 115 e (omega arith)) (sym (braced-behind attr 1 i (text_in (drop (i + 1) t))))

  pub letter_E : get_or t i 0 ≡ 69 → after_percent t i ≡ item_read (with_text env 0 (text_in (drop (i + 1) t))) (i + 1)
  unfolding letters name_in starts
  letter_E e = rw (open_at t i 69 e (omega arith)) (sym (braced-behind env 1 i (text_in (drop (i + 1) t))))

  pub letter_c : get_or t i 0 ≡ 99 → after_percent t i ≡ item_read (formed (whole result) 1 (drop (i + 1) t)) i
  unfolding letters name_in starts
  letter_c e = rw (open_at t i 99 e (omega arith))

  -- a byte that is no letter of the table
  module _ {b : ℕ} (e : b ≡ get_or t i 0) (sign : b ≡ 37 → ⊥) where
    other : (x : ℕ) → (b ≡ x → ⊥) → starts (x ∷ []) (drop i t) ≡ false
    other x n = not-begun x [] (λ f. n (e ∙ f))

    pub letter_none : (b ≡ 107 → ⊥) → (b ≡ 110 → ⊥) → (b ≡ 112 → ⊥) → (b ≡ 98 → ⊥) → (b ≡ 115 → ⊥) → (b ≡ 69 → ⊥) → (b ≡ 77 → ⊥) → (b ≡ 109 → ⊥) → (b ≡ 99 → ⊥) → fault ≡ after_percent t i
    unfolding letters name_in
    letter_none k n p d s E M m c = rw (other 107 k, other 110 n, other 112 p, other 98 d, other 115 s, other 69 E, other 77 M, other 109 m, other 99 c, other 37 sign)

    pub no_letter : (65 ≤ b → b ≤ 90 → ⊥) → (97 ≤ b → b ≤ 122 → ⊥) → fault ≡ after_percent t i
    no_letter C S =
        letter_none (λ q. S (omega arith) (omega arith)) (λ q. S (omega arith) (omega arith)) (λ q. S (omega arith) (omega arith)) (λ q. S (omega arith) (omega arith))
        (λ q. S (omega arith) (omega arith)) (λ q. C (omega arith) (omega arith)) (λ q. C (omega arith) (omega arith)) (λ q. S (omega arith) (omega arith)) (λ q. S (omega arith) (omega arith))

  -- ---- names

  pub name_k : get_or t i 0 ≡ 107 → after_dollar t i ≡ if_named (bytes "kernel") kernel t i
  unfolding names name_in starts bytes
  name_k e = rw (open_at t i 107 e (omega arith)) (choose (starts (bytes "ernel") (drop (i + 1) t)) (bytes "kernel") kernel (107 ∷ drop (i + 1) t) i)

  pub name-n : get_or t i 0 ≡ 110 → after_dollar t i ≡ if_named (bytes "number") number t i
  unfolding names name_in starts bytes
  name-n e = rw (open_at t i 110 e (omega arith)) (choose (starts (bytes "umber") (drop (i + 1) t)) (bytes "number") number (110 ∷ drop (i + 1) t) i)

  pub name_i : get_or t i 0 ≡ 105 → after_dollar t i ≡ if_named (bytes "id") id t i
  unfolding names name_in starts bytes
  name_i e = rw (open_at t i 105 e (omega arith)) (choose (starts (bytes "d") (drop (i + 1) t)) (bytes "id") id (105 ∷ drop (i + 1) t) i)

-- names with a common first byte, told apart by the second

module _ (t : List ℕ) (i : ℕ) where
  pub name_de : get_or t i 0 ≡ 100 → get_or t (i + 1) 0 ≡ 101 → after_dollar t i ≡ if_named (bytes "devpath") devpath t i
  unfolding names name_in starts bytes
  name_de e f =
      rw (open_at t i 100 e (omega arith), open_at t (i + 1) 101 f (omega arith))
      (choose (starts (bytes "vpath") (drop (i + 1 + 1) t)) (bytes "devpath") devpath (100 ∷ 101 ∷ drop (i + 1 + 1) t) i)

  pub name_d : get_or t i 0 ≡ 100 → (get_or t (i + 1) 0 ≡ 101 → ⊥) → after_dollar t i ≡ if_named (bytes "driver") driver t i
  unfolding names name_in starts bytes
  name_d e n =
      rw (open_at t i 100 e (omega arith), not-begun t (i + 1) 101 (bytes "vpath") n)
      (choose (starts (bytes "river") (drop (i + 1) t)) (bytes "driver") driver (100 ∷ drop (i + 1) t) i)

  pub name_ma : get_or t i 0 ≡ 109 → get_or t (i + 1) 0 ≡ 97 → after_dollar t i ≡ if_named (bytes "major") major t i
  unfolding names name_in starts bytes
  name_ma e f =
      rw (open_at t i 109 e (omega arith), open_at t (i + 1) 97 f (omega arith))
      (choose (starts (bytes "jor") (drop (i + 1 + 1) t)) (bytes "major") major (109 ∷ 97 ∷ drop (i + 1 + 1) t) i)

  pub name_m : get_or t i 0 ≡ 109 → (get_or t (i + 1) 0 ≡ 97 → ⊥) → after_dollar t i ≡ if_named (bytes "minor") minor t i
  unfolding names name_in starts bytes
  name_m e n =
      rw (open_at t i 109 e (omega arith), not-begun t (i + 1) 97 (bytes "jor") n)
      (choose (starts (bytes "inor") (drop (i + 1) t)) (bytes "minor") minor (109 ∷ drop (i + 1) t) i)

  -- ---- names that take a text

  pub name_a : get_or t i 0 ≡ 97 → after_dollar t i ≡ pick (starts (bytes "attr") (drop i t)) (item_read (with_text attr 0 (text_in (drop (i + 4) t))) (i + 4)) fault
  unfolding names name_in starts bytes
  name_a e =
      rw (braced-behind attr 4 i (text_in (drop (i + 4) t)), ← drop-drop 4 i t, open_at t i 97 e (omega arith))
      (choose_braced (starts (bytes "ttr") (drop (i + 1) t)) (bytes "attr") attr (97 ∷ drop (i + 1) t) i)

  pub name_e : get_or t i 0 ≡ 101 → after_dollar t i ≡ pick (starts (bytes "env") (drop i t)) (item_read (with_text env 0 (text_in (drop (i + 3) t))) (i + 3)) fault
  unfolding names name_in starts bytes
  name_e e =
      rw (braced-behind env 3 i (text_in (drop (i + 3) t)), ← drop-drop 3 i t, open_at t i 101 e (omega arith))
      (choose_braced (starts (bytes "nv") (drop (i + 1) t)) (bytes "env") env (101 ∷ drop (i + 1) t) i)

  -- ---- the name that no brace may follow

  pub name_r : get_or t i 0 ≡ 114 → after_dollar t i ≡ pick (starts (bytes "result") (drop i t)) (item_read (formed (whole result) 6 (drop (i + 6) t)) i) fault
  unfolding names name_in starts bytes
  name_r e =
      rw (← drop-drop 6 i t, open_at t i 114 e (omega arith))
      (choose_whole (starts (bytes "esult") (drop (i + 1) t)) (bytes "result") result (114 ∷ drop (i + 1) t) i)

  -- a byte that no name begins with
  module _ {b : ℕ} (e : b ≡ get_or t i 0) (sign : b ≡ 36 → ⊥) where
    other_name : (x : ℕ) (name : List ℕ) → (b ≡ x → ⊥) → starts (x ∷ name) (drop i t) ≡ false
    other_name x name n = not-begun t i x name (λ f. n (e ∙ f))

    pub name-none : (b ≡ 107 → ⊥) → (b ≡ 110 → ⊥) → (b ≡ 100 → ⊥) → (b ≡ 105 → ⊥) → (b ≡ 97 → ⊥) → (b ≡ 101 → ⊥) → (b ≡ 109 → ⊥) → (b ≡ 114 → ⊥) → fault ≡ after_dollar t i
    unfolding names name_in bytes
    name-none k n d i' a e' m r =
        rw (
          other_name 107 (bytes "ernel") k,
          other_name 110 (bytes "umber") n,
          other_name 100 (bytes "evpath") d,
          other_name 105 (bytes "d") i',
          other_name 100 (bytes "river") d,
          other_name 97 (bytes "ttr") a,
          other_name 101 (bytes "nv") e',
          other_name 109 (bytes "ajor") m,
          other_name 109 (bytes "inor") m,
          other_name 114 (bytes "esult") r,
          other_name 36 [] sign,
        )

    pub no_name : (97 ≤ b → b ≤ 122 → ⊥) → fault ≡ after_dollar t i
    no_name S =
        name-none (λ q. S (omega arith) (omega arith)) (λ q. S (omega arith) (omega arith)) (λ q. S (omega arith) (omega arith)) (λ q. S (omega arith) (omega arith))
        (λ q. S (omega arith) (omega arith)) (λ q. S (omega arith) (omega arith)) (λ q. S (omega arith) (omega arith)) (λ q. S (omega arith) (omega arith))

-- bounds behind n bytes are bounds before them
pub behind : (t : List ℕ) (i n : ℕ) (r : Option PieceRead) → FoundWithin r t (i + n) → FoundWithin r t i
behind t i n None w = tt
behind t i n (Some r) w = record { forward = omega (arith, w.forward); inside = w.inside; text = w.text }
