-- What is substituted has no NUL, if neither the template nor what it inserts has one.
-- Assumes nothing.
use Prim.Native.Nat.{ℕ, zero, suc, ◌+◌, ◌/◌, ◌%◌}
use mathlib.Core.Path.{◌≡◌, refl, ap}
use mathlib.Core.Bool.{Bool, true, false, not}
use mathlib.Core.List.{List, [], ◌∷◌}
use Rattle.std.specs.Prelude.{Option, None, Some}
use native.Mathlib.Omega.{arith}
use lib.ListN.{length, drop}
use lib.Dec.{leb, ltb, eqb}
use borrow.Author.Tests.{ne_eqb}
use Rattle.lists.specs.Lists.{pick, all, nth, All}
use Rattle.lists.specs.Bytes.{is_space, starts, clean, no_space}
use Rattle.lists.specs.Runs.{split_at}
use Rattle.lists.specs.Items.{Item, before, item_then, items}
use Rattle.lists.proofs.Tests.{and_both, both_and}
use Rattle.lists.proofs.Lists.{all_append, all_map, pick_both}
use Rattle.lists.proofs.Bytes.{split-clean, last_clean, trim-clean, digits-clean}
use Rattle.entries.specs.Entry.{ok_prop, lookup, or_empty}
use Rattle.entries.proofs.Entries.{Clean, lookup-clean}
use Rattle.template.specs.Template as T
use Rattle.template.specs.Decimal.{decimal_on}
use Rattle.template.specs.Template.{Piece, Form, plain, whole, braced, Named, names, letters, name_in, text_in, with_text, starts_brace, formed, named_piece, Sign, dollar_sign, percent_sign, no_sign, sign_of, piece_by, piece_at, pieces}
use Rattle.device.specs.Device.{Member, Device, chain, name_of, attr_of, member_at, ok_path, ok_member}
use Rattle.lists.specs.Sizes.{most_path, most_subsystem, most_attributes}
use Rattle.engine.specs.Substitute.{of_matched, attr_at, first_of, Source, matched_in, inserted, is_written, piece_text, text_of, pieces_of, substituted}
use Rattle.device.proofs.Sound.{Sound}

-- ---- the pieces of a template without NUL

abbrev pub clean_piece : Piece → Bool
clean_piece (T.written b) = not (eqb b 0)
clean_piece T.kernel = true
clean_piece T.number = true
clean_piece T.devpath = true
clean_piece T.id = true
clean_piece T.driver = true
clean_piece T.major = true
clean_piece T.minor = true
clean_piece (T.attr k) = true
clean_piece (T.env k) = true
clean_piece T.result = true
clean_piece T.dollar = true
clean_piece T.percent = true

abbrev FormOk : Form → Type 0
FormOk (plain p) = clean_piece p ≡ true
FormOk (whole p) = clean_piece p ≡ true
FormOk (braced f) = (k : List ℕ) → clean_piece (f k) ≡ true

abbrev ItemOk : Option (Item Piece) → Type 0
ItemOk None = Unit {0}
ItemOk (Some i) = clean_piece i.value ≡ true

abbrev AllOk : Option (List Piece) → Type 0
AllOk None = Unit {0}
AllOk (Some ps) = all clean_piece ps ≡ true

abbrev NameOk : Option Named → Type 0
NameOk None = Unit {0}
NameOk (Some n) = FormOk n.form

name_in-ok : (ns : List Named) → All (λ (n : Named). FormOk n.form) ns → (bs : List ℕ) → NameOk (name_in ns bs)
unfolding name_in
name_in-ok [] h bs = tt
name_in-ok (n ∷ ns) (h, k) bs = pick_both NameOk (starts n.name bs) (Some n) (name_in ns bs) h (name_in-ok ns k bs)

names-ok : All (λ (n : Named). FormOk n.form) names
unfolding names
names-ok = (refl, (refl, (refl, (refl, (refl, ((λ k. refl), ((λ k. refl), (refl, (refl, (refl, (refl, tt)))))))))))

letters-ok : All (λ (n : Named). FormOk n.form) letters
unfolding letters
letters-ok = (refl, (refl, (refl, (refl, ((λ k. refl), ((λ k. refl), (refl, (refl, (refl, (refl, tt))))))))))

with_text-ok : (f : List ℕ → Piece) (n : ℕ) (o : Option (List ℕ)) → ((k : List ℕ) → clean_piece (f k) ≡ true) → ItemOk (with_text f n o)
with_text-ok f n None h = tt
with_text-ok f n (Some text) h = h text

formed-ok : (f : Form) (n : ℕ) (rest : List ℕ) → FormOk f → ItemOk (formed f n rest)
formed-ok (plain p) n rest h = h
formed-ok (whole p) n rest h = pick_both ItemOk (starts_brace rest) None (Some (record { value = p; more = n })) tt h
formed-ok (braced f) n rest h = with_text-ok f n (text_in rest) h

named_ok : (o : Option Named) (bs : List ℕ) → NameOk o → ItemOk (named_piece o bs)
named_ok None bs h = tt
named_ok (Some n) bs h = formed-ok n.form (length n.name) (drop (length n.name) bs) h

piece_by-ok : (s : Sign) (b : ℕ) (bs : List ℕ) → not (eqb b 0) ≡ true → ItemOk (piece_by s b bs)
piece_by-ok dollar_sign b bs h = named_ok (name_in names bs) bs (name_in-ok names names-ok bs)
piece_by-ok percent_sign b bs h = named_ok (name_in letters bs) bs (name_in-ok letters letters-ok bs)
piece_by-ok no_sign b bs h = h

before-ok : (p : Piece) (o : Option (List Piece)) → clean_piece p ≡ true → AllOk o → AllOk (before p o)
before-ok p None h k = tt
before-ok p (Some ps) h k = both_and (clean_piece p) (all clean_piece ps) h k

item_then-ok : (o : Option (Item Piece)) (k : ℕ → Option (List Piece)) → ItemOk o → ((n : ℕ) → AllOk (k n)) → AllOk (item_then o k)
item_then-ok None k h g = tt
item_then-ok (Some i) k h g = before-ok i.value (k i.more) h (g i.more)

items-ok : (k : ℕ) (bs : List ℕ) → clean bs ≡ true → AllOk (items piece_at k bs)
unfolding items
items-ok k [] h = refl
items-ok zero (b ∷ bs) h =
    let (p, q) = and_both (not (eqb b 0)) (clean bs) h in
    item_then-ok (piece_at b bs) (λ more. items piece_at more bs) (piece_by-ok (sign_of b) b bs p) (λ n. items-ok n bs q)
items-ok (suc k) (b ∷ bs) h = items-ok k bs (and_both (not (eqb b 0)) (clean bs) h).1

ok-pieces : (o : Option (List Piece)) → AllOk o → all clean_piece (pieces_of o) ≡ true
ok-pieces None h = refl
ok-pieces (Some ps) h = h

pub pieces-clean : (v : List ℕ) → clean v ≡ true → all clean_piece (pieces_of (pieces v)) ≡ true
unfolding pieces
pieces-clean v h = ok-pieces (items piece_at 0 v) (items-ok 0 v h)

-- ---- what each piece inserts

-- the parts of a sound device
pub record MemberClean (m : Member) : Type 0 where
  pub path : clean m.path ≡ true
  pub driver : clean m.driver ≡ true
  pub attributes : all ok_prop m.attributes ≡ true

pub member-clean : (m : Member) → ok_member m ≡ true → MemberClean m
member-clean m h =
    let a = and_both (leb 1 (length m.path)) _ h in
    let b = and_both (leb (length m.path) most_path) _ a.1 in
    let c = and_both (clean m.path) _ b.1 in
    let d = and_both (ok_path m.path) _ c.1 in
    let e = and_both (leb (length m.subsystem) most_subsystem) _ d.1 in
    let f = and_both (clean m.subsystem) _ e.1 in
    let g = and_both (leb (length m.driver) most_subsystem) _ f.1 in
    let i = and_both (clean m.driver) _ g.1 in
    let j = and_both (leb (length m.attributes) most_attributes) _ i.1 in
    let k = and_both (all ok_prop m.attributes) _ j.1 in
    record { path = c.0; driver = i.0; attributes = k.0 }

name-clean : (m : Member) → MemberClean m → clean (name_of m) ≡ true
name-clean m h = last_clean (split_at 47 m.path) (split-clean 47 m.path h.path)

abbrev MaybeClean : Option Member → Type 0
MaybeClean None = Unit {0}
MaybeClean (Some m) = MemberClean m

nth-clean : (n : ℕ) (ms : List Member) → all ok_member ms ≡ true → MaybeClean (nth n ms)
nth-clean n [] h = tt
nth-clean zero (m ∷ ms) h = member-clean m (and_both (ok_member m) (all ok_member ms) h).0
nth-clean (suc n) (m ∷ ms) h = nth-clean n ms (and_both (ok_member m) (all ok_member ms) h).1

chain-ok : (d : Device) → Sound d → all ok_member (chain d) ≡ true
chain-ok d g = both_and (ok_member d.event) (all ok_member d.parents) g.event g.parents

at_clean : (n : ℕ) (d : Device) → Sound d → MaybeClean (member_at n d)
at_clean zero d g = tt
at_clean (suc n) d g = nth-clean n (chain d) (chain-ok d g)

of_clean : (o : Option Member) (f : Member → List ℕ) → ((m : Member) → MemberClean m → clean (f m) ≡ true) → MaybeClean o → clean (of_matched o f) ≡ true
of_clean None f g h = refl
of_clean (Some m) f g h = g m h

or-clean : (o : Option (List ℕ)) → Clean o → clean (or_empty o) ≡ true
or-clean None h = refl
or-clean (Some v) h = h

attr_at-clean : (k : List ℕ) (o : Option Member) → MaybeClean o → Clean (attr_at k o)
attr_at-clean k None h = tt
attr_at-clean k (Some m) h = lookup-clean k m.attributes h.attributes

first-clean : (a b : Option (List ℕ)) → Clean a → Clean b → Clean (first_of a b)
first-clean None b h k = k
first-clean (Some v) b h k = h

digit_clean : (n : ℕ) → not (eqb (48 + n) 0) ≡ true
digit_clean n = ap not (ne_eqb (48 + n) 0 (λ e. omega arith))

decimal-clean : (k n : ℕ) (done : List ℕ) → clean done ≡ true → clean (decimal_on k n done) ≡ true
unfolding decimal_on
decimal-clean zero n done h = h
decimal-clean (suc k) n done h = at (ltb n 10) refl (λ m more g. decimal-clean k m more g)
  where
    at : (t : Bool) → ltb n 10 ≡ t → ((m : ℕ) (more : List ℕ) → clean more ≡ true → clean (decimal_on k m more) ≡ true) → clean (decimal_on (suc k) n done) ≡ true
    at true e ih = rw (e, decimal_on) (both_and (not (eqb (48 + n) 0)) (clean done) (digit_clean n) h)
    at false e ih = rw (e, decimal_on) (ih (n / 10) ((48 + n % 10) ∷ done) (both_and (not (eqb (48 + n % 10) 0)) (clean done) (digit_clean (n % 10)) h))

module _ (c : Source) (g : Sound c.device) (k : all ok_prop c.properties ≡ true) (x : clean c.output ≡ true) where
  event_clean : MemberClean c.device.event
  event_clean = member-clean c.device.event g.event

  matched-clean : MaybeClean (matched_in c)
  matched-clean = at_clean c.place c.device g

  pub inserted-clean : (p : Piece) → clean_piece p ≡ true → clean (inserted c p) ≡ true
  unfolding inserted
  inserted-clean (T.written b) h = both_and (not (eqb b 0)) true h refl
  inserted-clean T.kernel h = name-clean c.device.event event_clean
  inserted-clean T.number h = digits-clean (name_of c.device.event) (name-clean c.device.event event_clean)
  inserted-clean T.devpath h = event_clean.path
  inserted-clean T.id h = of_clean (matched_in c) name_of name-clean matched-clean
  inserted-clean T.driver h = of_clean (matched_in c) (λ m. m.driver) (λ m u. u.driver) matched-clean
  inserted-clean T.major h = decimal-clean 10 c.device.major [] refl
  inserted-clean T.minor h = decimal-clean 10 c.device.minor [] refl
  inserted-clean (T.attr f) h =
      trim-clean (or_empty (first_of (attr_of f c.device.event) (attr_at f (matched_in c))))
      (or-clean (first_of (attr_of f c.device.event) (attr_at f (matched_in c)))
      (first-clean (attr_of f c.device.event) (attr_at f (matched_in c)) (lookup-clean f c.device.event.attributes event_clean.attributes) (attr_at-clean f (matched_in c) matched-clean)))
  inserted-clean (T.env f) h = or-clean (lookup f c.properties) (lookup-clean f c.properties k)
  inserted-clean T.result h = x
  inserted-clean T.dollar h = refl
  inserted-clean T.percent h = refl

  -- ---- the whole text

  space_clean : (b : ℕ) → not (eqb b 0) ≡ true → not (eqb (no_space b) 0) ≡ true
  space_clean b h = at (is_space b)
    where
      at : (t : Bool) → not (eqb (pick t 95 b) 0) ≡ true
      at true = refl
      at false = h

  piece-clean : (spaceless : Bool) (p : Piece) → clean_piece p ≡ true → clean (piece_text spaceless c p) ≡ true
  unfolding piece_text
  piece-clean spaceless p h = at (is_written p) refl spaceless refl
    where
      at : (t : Bool) → is_written p ≡ t → (u : Bool) → spaceless ≡ u → clean (piece_text spaceless c p) ≡ true
      at true e u f = rw (e, piece_text) (inserted-clean p h)
      at false e true f = rw (e, f, piece_text) (all_map (λ b. not (eqb b 0)) no_space space_clean (inserted c p) (inserted-clean p h))
      at false e false f = rw (e, f, piece_text) (inserted-clean p h)

  text-clean : (spaceless : Bool) (ps : List Piece) → all clean_piece ps ≡ true → clean (text_of spaceless c ps) ≡ true
  unfolding text_of
  text-clean spaceless [] h = refl
  text-clean spaceless (p ∷ ps) h =
      let (a, b) = and_both (clean_piece p) (all clean_piece ps) h in
      all_append (λ b. not (eqb b 0)) (piece_text spaceless c p) (text_of spaceless c ps) (piece-clean spaceless p a) (text-clean spaceless ps b)

  pub substituted-clean : (spaceless : Bool) (v : List ℕ) → clean v ≡ true → clean (substituted spaceless c v) ≡ true
  unfolding substituted
  substituted-clean spaceless v h = text-clean spaceless (pieces_of (pieces v)) (pieces-clean v h)
