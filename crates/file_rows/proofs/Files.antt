-- A file at a place of a set, by its rank, its name and its text.
-- Assumes nothing.
use Prim.Native.Nat.{ℕ, ◌+◌, ◌≤◌, ◌<◌}
use mathlib.Core.Path.{◌≡◌, sym, ap, ◌∙◌}
use mathlib.Core.List.{List}
use native.Mathlib.Omega.{arith}
use borrow.Author.Tests.{le-leb, lt-leb}
use lib.Dec.{leb}
use lib.ListN.{length, drop, get_or, drop_of_length-le}
use Rattle.lists.proofs.Rest.{rest_at}
use Rattle.entries.specs.Parse.{Parse, got, bad, bind, keep}
use Rattle.entries.specs.Entry.{one_text}
use Rattle.entries.proofs.Rows.{through}
use Rattle.entries.proofs.Entries.{kept}
use Rattle.sets.specs.Sets.{one_long}
use Rattle.files.specs.Files.{File, ok_name, last_rank, file_of, one_file}
use Rattle.set_rows.specs.Places.{bytes_in, LongFrom, LongIs}
use Rattle.set_rows.specs.declared.Part.{Part}
use Rattle.file_rows.specs.Places.{NameFrom, NameIs, or_bare, file_at, Stands, FileIs}

pub no-file : (set : List ℕ) (p : ℕ) → length set ≤ p → one_file (drop p set) ≡ bad
no-file set p h = rw (drop_of_length-le set h)

module _ (set : List ℕ) (p : ℕ) (h : p < length set) where
  abbrev rank : ℕ
  rank = get_or set p 0

  -- the rank, and what is read behind the name
  abbrev named : List ℕ → List ℕ → Parse File
  named n q = bind (one_long q) (λ t z. keep (leb rank last_rank) (file_of rank n t) z)

  by_rank : one_file (drop p set) ≡ bind (one_text ok_name (drop (p + 1) set)) named
  by_rank = ap one_file (rest_at set p h)

  pub no_name : one_text ok_name (drop (p + 1) set) ≡ bad → one_file (drop p set) ≡ bad
  no_name e = by_rank ∙ rw e

  module _ (n : Part) (is : NameIs set (p + 1) n) where
    pub no_text : one_long (drop n.end set) ≡ bad → one_file (drop p set) ≡ bad
    no_text e = by_rank ∙ rw (is.read, e)

    module _ (t : Part) (at : LongIs set n.end t) where
      pub no-rank : last_rank < rank → one_file (drop p set) ≡ bad
      no-rank l = by_rank ∙ rw (is.read, at.read, lt-leb rank last_rank l)

      whole : rank ≤ last_rank → one_file (drop p set) ≡ got (file_of rank (bytes_in set n) (bytes_in set t)) (drop t.end set)
      whole l = by_rank ∙ rw (is.read, at.read, le-leb rank last_rank l)

      pub file-is : rank ≤ last_rank → FileIs set p t.end
      unfolding file_at
      file-is l =
          let read : one_file (drop p set) ≡ got (file_at set p) (drop t.end set) = whole l ∙ ap (λ (f : File). got f (drop t.end set)) (sym (ap or_bare (whole l))) in
          record { within = at.inside.within; stands = record { within = h; behind = drop t.end set; read = read }; read = read }

-- ---- the parts of a file that stands

pub record Parts (set : List ℕ) (p : ℕ) : Type 0 where
  pub name : List ℕ
  pub behind : List ℕ
  pub text : List ℕ
  pub others : List ℕ
  pub name_read : one_text ok_name (drop (p + 1) set) ≡ got name behind
  pub text_read : one_long behind ≡ got text others
  pub is : file_of (get_or set p 0) name text ≡ file_at set p

pub parts : (set : List ℕ) (p : ℕ) → Stands set p → Parts set p
parts set p w =
    through (one_text ok_name (drop (p + 1) set)) _ (file_at set p) w.behind (sym (by_rank set p w.within) ∙ w.read) λ n q e₁ e₂.
    through (one_long q) _ (file_at set p) w.behind e₂ λ t z e₃ e₄.
    let (_, i, _) = kept (leb (get_or set p 0) last_rank) (file_of (get_or set p 0) n t) (file_at set p) z w.behind e₄ in
    record { name = n; behind = q; text = t; others = z; name_read = e₁; text_read = e₃; is = i }

module _ (set : List ℕ) (p : ℕ) (w : Stands set p) where
  pub rank_is : get_or set p 0 ≡ (file_at set p).rank
  rank_is = ap (λ (f : File). f.rank) (parts set p w).is

  pub name-from : NameFrom set (p + 1)
  name-from = let x = parts set p w in record { within = omega (arith, w.within); name = x.name; behind = x.behind; read = x.name_read }

  module _ (n : Part) (is : NameIs set (p + 1) n) where
    same_name : ((parts set p w).name ≡ bytes_in set n) × ((parts set p w).behind ≡ drop n.end set)
    same_name = let x = parts set p w in let e : got x.name x.behind ≡ got (bytes_in set n) (drop n.end set) = sym x.name_read ∙ is.read in (cc, cc)

    pub name_there : bytes_in set n ≡ (file_at set p).name
    name_there = sym same_name.0 ∙ ap (λ (f : File). f.name) (parts set p w).is

    pub text-from : LongFrom set n.end
    text-from =
        let x = parts set p w in
        record { within = is.inside.within; text = x.text; behind = x.others; read = ap one_long (sym same_name.1) ∙ x.text_read }

    pub text_there : (t : Part) → LongIs set n.end t → bytes_in set t ≡ (file_at set p).text
    text_there t at =
        let x = parts set p w in
        let e : got (bytes_in set t) (drop t.end set) ≡ got x.text x.others = sym at.read ∙ ap one_long (sym same_name.1) ∙ x.text_read in
        let same : bytes_in set t ≡ x.text = cc in
        same ∙ ap (λ (f : File). f.text) x.is
