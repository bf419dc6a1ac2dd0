-- What is read at a place, and the pieces of a template from there on.
-- Assumes nothing.
use Prim.Native.Nat.{ℕ, suc, ◌+◌, ◌≤◌, ◌<◌}
use mathlib.Core.Path.{◌≡◌, refl, sym, ap, ◌∙◌}
use mathlib.Core.List.{List, [], ◌∷◌}
use Rattle.std.specs.Prelude.{Option, None, Some}
use native.Mathlib.Omega.{arith}
use borrow.Author.Tests.{ne_eqb}
use lib.ListN.{length, get_or, drop, drop_of_length-le}
use lib.Seq.{drop-drop}
use Rattle.lists.specs.Lists.{is_some}
use Rattle.lists.specs.Items.{Item, before}
use Rattle.lists.proofs.Rest.{rest_at}
use Rattle.lists.proofs.Scan.{some-before}
use Rattle.template.specs.Template.{Piece, written, piece_at, pieces}
use Rattle.template.proofs.Pieces.{pieces_end, pieces_at, pieces-bad}
use Rattle.pieces.specs.Read.{piece, end, fault, item_read, read_from, read_at, PassesWritten}

module _ (t : List ℕ) (i : ℕ) where
  -- ---- at the end, and at a byte

  pub read_end : length t ≤ i → read_at t i ≡ end
  unfolding read_at
  read_end h = rw (drop_of_length-le t {i = i} h)

  pub read_byte : (b : ℕ) → drop i t ≡ b ∷ drop (i + 1) t → read_at t i ≡ item_read (piece_at b (drop (i + 1) t)) (i + 1)
  unfolding read_at
  read_byte b e = rw e

  pub read_written : i < length t → (get_or t i 0 ≡ 36 → ⊥) → (get_or t i 0 ≡ 37 → ⊥) → read_at t i ≡ piece (written (get_or t i 0)) (i + 1)
  read_written h m n =
      let z : i + 1 + 0 ≡ i + 1 = omega arith in
      read_byte (get_or t i 0) (rest_at t i h) ∙ rw (ne_eqb (get_or t i 0) 36 m, ne_eqb (get_or t i 0) 37 n, z)

  -- ---- the pieces from a place on

  pub reads_end : read_at t i ≡ end → pieces (drop i t) ≡ Some []
  unfolding read_at
  reads_end r = go (drop i t) r
    where
      item : (o : Option (Item Piece)) (j : ℕ) → item_read o j ≡ end → ⊥
      item None j e = let z : ◌≡◌ {A = ℕ} 0 1 = cc in omega arith
      item (Some it) j e = let z : ◌≡◌ {A = ℕ} 0 1 = cc in omega arith

      go : (bs : List ℕ) → read_from bs i ≡ end → pieces bs ≡ Some []
      go [] e = pieces_end
      go (b ∷ bs) e = absurd (item (piece_at b bs) (i + 1) e)

  pub reads-fault : read_at t i ≡ fault → pieces (drop i t) ≡ None
  unfolding read_at
  reads-fault r = go (drop i t) r
    where
      item : (b : ℕ) (bs : List ℕ) (o : Option (Item Piece)) → piece_at b bs ≡ o → item_read o (i + 1) ≡ fault → pieces (b ∷ bs) ≡ None
      item b bs None k e = pieces-bad b bs k
      item b bs (Some it) k e = let z : ◌≡◌ {A = ℕ} 0 1 = cc in absurd (omega arith)

      go : (bs : List ℕ) → read_from bs i ≡ fault → pieces bs ≡ None
      go [] e = let z : ◌≡◌ {A = ℕ} 0 1 = cc in absurd (omega arith)
      go (b ∷ bs) e = item b bs (piece_at b bs) refl e

  pub reads-piece : (p : Piece) (next : ℕ) → read_at t i ≡ piece p next → pieces (drop i t) ≡ before p (pieces (drop next t))
  unfolding read_at
  reads-piece p next r = go (drop i t) refl r
    where
      item : (b : ℕ) (bs : List ℕ) (o : Option (Item Piece)) → drop i t ≡ b ∷ bs → piece_at b bs ≡ o → item_read o (i + 1) ≡ piece p next → pieces (b ∷ bs) ≡ before p (pieces (drop next t))
      item b bs None d k e = let z : ◌≡◌ {A = ℕ} 0 1 = cc in absurd (omega arith)
      item b bs (Some it) d k e =
          let v : it.value ≡ p = cc in
          let q : i + 1 + it.more ≡ next = cc in
          let a : i + suc it.more ≡ next = omega arith in
          let f : drop it.more bs ≡ drop next t = ap (λ (l : List ℕ). drop (suc it.more) l) (sym d) ∙ drop-drop (suc it.more) i t ∙ ap (λ (n : ℕ). drop n t) a in
          pieces_at b bs it k ∙ rw (v, f)

      go : (bs : List ℕ) → drop i t ≡ bs → read_from bs i ≡ piece p next → pieces bs ≡ before p (pieces (drop next t))
      go [] d e = let z : ◌≡◌ {A = ℕ} 0 1 = cc in absurd (omega arith)
      go (b ∷ bs) d e = item b bs (piece_at b bs) d refl e

  -- a piece is there, so what follows decides whether there is a fault
  pub some-behind : (p : Piece) (next : ℕ) → read_at t i ≡ piece p next → is_some (pieces (drop next t)) ≡ is_some (pieces (drop i t))
  some-behind p next r = sym (ap is_some (reads-piece p next r) ∙ some-before p (pieces (drop next t)))

pub written_on : (t : List ℕ) (at i : ℕ) → PassesWritten t at i → i < length t → (get_or t i 0 ≡ 36 → ⊥) → (get_or t i 0 ≡ 37 → ⊥) → PassesWritten t at (i + 1)
written_on t at i p h m n = record {
  from = omega (arith, p.from);
  within = omega arith;
  same = some-behind t i (written (get_or t i 0)) (i + 1) (read_written t i h m n) ∙ p.same;
}

pub written-out : (t : List ℕ) (at i : ℕ) → PassesWritten t at i → length t ≤ i → PassesWritten t at (length t)
written-out t at i p h = let e : i ≡ length t = omega (arith, p.within) in rw (← e) p
