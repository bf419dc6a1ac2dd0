-- A name behind its length, by the places that code has.
-- Assumes nothing.
use Prim.Native.Nat.{ℕ, ◌+◌, ◌-◌, ◌≤◌, ◌<◌}
use mathlib.Core.Path.{◌≡◌, refl, sym, ap, ap₂, ◌∙◌}
use mathlib.Core.Bool.{Bool, true, false, ◌&&◌}
use mathlib.Core.List.{List}
use native.Mathlib.Omega.{arith}
use borrow.Author.Tests.{le-leb, lt-leb, leb-true, leb-false}
use lib.Dec.{leb}
use lib.ListN.{length, take, drop, get_or, length-drop, drop_of_length-le}
use lib.Seq.{drop-drop, length-take-le}
use Rattle.lists.proofs.Rest.{rest_at}
use Rattle.lists.proofs.Tests.{and_both, both_and, and-false}
use Rattle.entries.specs.Parse.{got, bad, keep}
use Rattle.entries.specs.Entry.{one_text}
use Rattle.entries.proofs.Entries.{kept, keep_there}
use Rattle.files.specs.Files.{ok_name, most_name}
use Rattle.set_rows.specs.Places.{bytes_in}
use Rattle.set_rows.specs.declared.Part.{Part}
use Rattle.file_rows.specs.Places.{NameFrom, NameIs}

-- nothing stands at the end
pub none_there : (set : List ℕ) (p : ℕ) → length set ≤ p → one_text ok_name (drop p set) ≡ bad
none_there set p h = rw (drop_of_length-le set h)

module _ (set : List ℕ) (p : ℕ) (h : p < length set) where
  abbrev len : ℕ
  len = get_or set p 0

  abbrev rest : List ℕ
  rest = drop (p + 1) set

  room : length rest ≡ length set - p - 1
  room = omega (arith, length-drop (p + 1) set)

  by_length : one_text ok_name (drop p set) ≡ keep (leb len (length rest) && ok_name (take len rest)) (take len rest) (drop len rest)
  by_length = ap (one_text ok_name) (rest_at set p h)

  pub name-is : (r : Part) → r.start ≡ p + 1 → r.end ≡ r.start + len → r.end ≤ length set → 1 ≤ len → len ≤ most_name → NameIs set p r
  name-is r s e w a b =
      let begins : rest ≡ drop r.start set = ap (λ (i : ℕ). drop i set) (sym s) in
      let sized : len ≡ r.end - r.start = omega arith in
      let n : length (take len rest) ≡ len = length-take-le len rest (omega (arith, room)) in
      let ok : ok_name (take len rest) ≡ true = both_and (leb 1 (length (take len rest))) _ (le-leb 1 (length (take len rest)) (omega (arith, n))) (le-leb (length (take len rest)) most_name (omega (arith, n))) in
      let ends : drop len rest ≡ drop r.end set = ap (drop len) begins ∙ drop-drop len r.start set ∙ ap (λ (i : ℕ). drop i set) (sym e) in
      record {
        start = s;
        inside = record { rising = omega arith; within = w };
        read = by_length
            ∙ keep_there (leb len (length rest) && ok_name (take len rest)) (take len rest) (bytes_in set r) (drop len rest) (drop r.end set)
            (both_and (leb len (length rest)) (ok_name (take len rest)) (le-leb len (length rest) (omega (arith, room))) ok) (ap₂ take sized begins) ends;
      }

  pub name_outside : length set - p - 1 < len → one_text ok_name (drop p set) ≡ bad
  name_outside l = by_length ∙ rw (lt-leb len (length rest) (omega (arith, room)))

  ill_sized : len ≤ length set - p - 1 → ok_name (take len rest) ≡ false → one_text ok_name (drop p set) ≡ bad
  ill_sized k f = by_length ∙ rw (f, and-false (leb len (length rest)))

  pub name-empty : len ≤ length set - p - 1 → len < 1 → one_text ok_name (drop p set) ≡ bad
  name-empty k l =
      let n : length (take len rest) ≡ len = length-take-le len rest (omega (arith, room)) in
      ill_sized k (ap (λ (t : Bool). t && leb (length (take len rest)) most_name) (lt-leb 1 (length (take len rest)) (omega (arith, n))))

  pub name-long : len ≤ length set - p - 1 → most_name < len → one_text ok_name (drop p set) ≡ bad
  name-long k l =
      let n : length (take len rest) ≡ len = length-take-le len rest (omega (arith, room)) in
      ill_sized k (ap (λ (t : Bool). leb 1 (length (take len rest)) && t) (lt-leb (length (take len rest)) most_name (omega (arith, n))) ∙ and-false (leb 1 (length (take len rest))))

-- one that was read is inside, and of a name's size
pub record Fits (set : List ℕ) (p : ℕ) : Type 0 where
  pub some : p < length set
  pub within : p + 1 + get_or set p 0 ≤ length set
  pub least : 1 ≤ get_or set p 0
  pub most : get_or set p 0 ≤ most_name

refused : {A X : Type 0} {y : A} {r : List ℕ} → bad ≡ got y r → X
refused e = let z : ◌≡◌ {A = ℕ} 0 1 = cc in absurd (omega arith)

pub name-fits : (set : List ℕ) (p : ℕ) → NameFrom set p → Fits set p
name-fits set p w = at (leb (length set) p) refl
  where
    inner : p < length set → Fits set p
    inner h =
        let k = len set p h in
        let bs = rest set p h in
        let (t, _, _) = kept (leb k (length bs) && ok_name (take k bs)) (take k bs) w.name (drop k bs) w.behind (sym (by_length set p h) ∙ w.read) in
        let (a, b) = and_both (leb k (length bs)) (ok_name (take k bs)) t in
        let fits : k ≤ length bs = leb-true k (length bs) a in
        let n : length (take k bs) ≡ k = length-take-le k bs fits in
        let (least, most) = and_both (leb 1 (length (take k bs))) (leb (length (take k bs)) most_name) b in
        let one = leb-true 1 (length (take k bs)) least in
        let few = leb-true (length (take k bs)) most_name most in
        record { some = h; within = omega (arith, room set p h, fits); least = omega (arith, n, one); most = omega (arith, n, few) }

    at : (t : Bool) → leb (length set) p ≡ t → Fits set p
    at true e = refused (sym (none_there set p (leb-true (length set) p e)) ∙ w.read)
    at false e = inner (leb-false (length set) p e)
