-- A turn over the chain, and what the stages of the check say of the whole record.
-- Assumes nothing.
use Prim.Native.Nat.{ℕ, zero, suc, ◌+◌, ◌-◌, ◌≤◌, ◌<◌}
use mathlib.Core.Path.{◌≡◌, refl, sym, ap, ◌∙◌}
use mathlib.Core.Bool.{Bool, true, false, ◌&&◌, and-true, and-false, and_assoc}
use mathlib.Core.List.{List, [], ◌∷◌}
use native.Mathlib.Nat.{not-suc-le-zero, le_of_suc-le-suc}
use native.Mathlib.Omega.{arith}
use borrow.Author.Tests.{le-leb, lt-leb}
use lib.Dec.{eqb, eqb-zero-suc, eqb-suc-suc}
use lib.ListN.{length, take, drop}
use Rattle.lists.specs.Lists.{cat, is_empty, is_some}
use Rattle.lists.specs.Bytes.{Bytes, distinct}
use Rattle.lists.specs.Sizes.{most_device}
use Rattle.lists.proofs.Moves.{ap_at, bytes_drop}
use Rattle.lists.proofs.Records.{rest_there}
use Rattle.entries.specs.Parse.{Parse, got, bad, bind, keep, many}
use Rattle.entries.specs.Entry.{Property, enc_prop, one_prop, keys}
use Rattle.entries.proofs.Rows.{many-back}
use Rattle.entries.proofs.Entries.{kept, prop_laws}
use Rattle.rows.specs.Row.{end_of}
use Rattle.std.specs.Prelude.{Some, None}
use Rattle.rows.proofs.Readers.{head_cut, head_whole, end_at, end-bad}
use Rattle.device.specs.Head.{Head, head_of}
use Rattle.device.specs.Device.{Member, Device, ok_head, cut_of, rising, enc_member, one_member, device_of, parents_on, event_on, props_on, parts, whole, ended, decode}
use Rattle.device.specs.Places.{Lies}
use Rattle.device.proofs.Members.{member-laws}
use Rattle.device_head.specs.Read.{path_len, path_in}
use Rattle.device_head.proofs.Lying.{member-length, lies_within, lies_path, lies_length}
use Rattle.device_check.specs.Stages.{apart, above_then, parents_in}

-- ---- a device that was read

-- it lies there, and the next begins where it ends
pub record Next (l : List ℕ) (p e : ℕ) : Type 0 where
  pub member : Member
  pub lies : Lies l p member
  pub read : one_member (drop p l) ≡ got member (drop e l)
  pub within : e ≤ length l

pub next_at : (l : List ℕ) → Bytes l → (p e : ℕ) → p ≤ length l → end_of (length l) (one_member (drop p l)) ≡ Some e → Next l p e
next_at l b p e h k =
    end_at (length l) e (one_member (drop p l)) k λ m r q i.
    let (w, o) = member-laws.back (drop p l) m r (bytes_drop p l b) q in
    let d : drop e l ≡ r = ap (λ (j : ℕ). drop j l) i ∙ rest_there l p (enc_member m) r h w in
    record {
      member = m;
      lies = record { sound = o; rest = r; bytes = w };
      read = q ∙ ap (got m) (sym d);
      within = omega arith;
    }

-- its path is there to be read
pub next-path : (l : List ℕ) (p e : ℕ) → Next l p e → p + 4 + path_len l p ≤ length l
next-path l p e n =
    let m = n.member in
    omega (arith, lies_within l p m n.lies, lies_length l p m n.lies, member-length m)

-- ---- a turn

parents_first : (child : List ℕ) (left : ℕ) (bs : List ℕ) → 0 < left → parents_in child left bs ≡ above_then (one_member bs) child (λ path r. parents_in path (left - 1) r)
unfolding parents_in
parents_first child zero bs h = absurd (not-suc-le-zero h)
parents_first child (suc n) bs h = ap_at (λ i. above_then (one_member bs) child (λ path r. parents_in path i r)) n (suc n - 1) (omega arith)

module _ (l child : List ℕ) (p left : ℕ) (h : 0 < left) where
  pub parents_bad : end_of (length l) (one_member (drop p l)) ≡ None → parents_in child left (drop p l) ≡ false
  parents_bad e = parents_first child left (drop p l) h ∙ rw (end-bad (length l) (one_member (drop p l)) e)

  parents_next : (e : ℕ) → Next l p e → parents_in child left (drop p l) ≡ (cut_of (path_in l p) child && parents_in (path_in l p) (left - 1) (drop e l))
  parents_next e n =
      parents_first child left (drop p l) h
      ∙ ap (λ (x : Parse Member). above_then x child (λ path r. parents_in path (left - 1) r)) n.read
      ∙ ap (λ (x : List ℕ). cut_of x child && parents_in x (left - 1) (drop e l)) (sym (lies_path l p n.member n.lies))

  pub parents_apart : (e : ℕ) → Next l p e → cut_of (path_in l p) child ≡ false → parents_in child left (drop p l) ≡ false
  parents_apart e n t = parents_next e n ∙ rw t

  pub parents_turn : (e : ℕ) → Next l p e → cut_of (path_in l p) child ≡ true → parents_in child left (drop p l) ≡ parents_in (path_in l p) (left - 1) (drop e l)
  parents_turn e n t = parents_next e n ∙ rw t

empty_at : (l : List ℕ) (p : ℕ) → p ≤ length l → is_empty (drop p l) ≡ eqb p (length l)
empty_at [] zero h = refl
empty_at [] (suc p) h = absurd (not-suc-le-zero h)
empty_at (x ∷ l) zero h = sym (eqb-zero-suc (length l))
empty_at (x ∷ l) (suc p) h = empty_at l p (le_of_suc-le-suc h) ∙ sym (eqb-suc-suc p (length l))

pub parents_none : (l child : List ℕ) (p left : ℕ) → left ≡ 0 → p ≤ length l → parents_in child left (drop p l) ≡ eqb p (length l)
unfolding parents_in
parents_none l child p left e h = ap (λ (i : ℕ). parents_in child i (drop p l)) e ∙ empty_at l p h

-- ---- the properties of a record

-- sound ones, and behind them the event device's place
pub record Event (l : List ℕ) (n p : ℕ) : Type 0 where
  pub properties : List Property
  pub read : many one_prop n (drop 7 l) ≡ got properties (drop p l)
  pub apart-keys : distinct (keys properties) ≡ true
  pub within : p ≤ length l

pub event_at : (l : List ℕ) → Bytes l → (n p : ℕ) → 7 ≤ length l → end_of (length l) (apart (many one_prop n (drop 7 l))) ≡ Some p → Event l n p
event_at l b n p k f = go (many one_prop n (drop 7 l)) refl
  where
    kept-keys : (ps : List Property) (r q : List ℕ) (qs : List Property) → keep (distinct (keys ps)) ps r ≡ got qs q → (distinct (keys ps) ≡ true) × (r ≡ q)
    kept-keys ps r q qs e = let (t, x, y) = kept (distinct (keys ps)) ps qs r q e in (t, y)

    go : (x : Parse (List Property)) → many one_prop n (drop 7 l) ≡ x → Event l n p
    go bad q =
        let z : None ≡ Some p = sym (ap (λ (x : Parse (List Property)). end_of (length l) (apart x)) q) ∙ f in
        let y : ◌≡◌ {A = ℕ} 0 1 = cc in
        absurd (omega arith)
    go (got ps r) q =
        end_at (length l) p (apart (many one_prop n (drop 7 l))) f λ qs s i j.
        let (t, y) = kept-keys ps r s qs (sym (ap apart q) ∙ i) in
        let (w, _, _) = many-back prop_laws n (drop 7 l) ps r (bytes_drop 7 l b) q in
        let d : drop p l ≡ r = ap (λ (i : ℕ). drop i l) (j ∙ ap (λ (x : List ℕ). length l - length x) (sym y)) ∙ rest_there l 7 (cat enc_prop ps) r k w in
        record { properties = ps; read = q ∙ ap (got ps) (sym d); apart-keys = t; within = omega arith }

-- ---- the devices of a record

-- devices that were read to the end, each a parent of the one before it
abbrev rising_end : Member → Parse (List Member) → Bool
rising_end e bad = false
rising_end e (got ms r) = rising e ms && is_empty r

rising-more : (e m : Member) (y : Parse (List Member)) (t : Bool) → rising_end m y ≡ t → rising_end e (bind y (λ xs r. got (m ∷ xs) r)) ≡ (cut_of m.path e.path && t)
rising-more e m bad t i = sym (ap (λ (b : Bool). cut_of m.path e.path && b) (sym i) ∙ and-false (cut_of m.path e.path))
rising-more e m (got xs r) t i = and_assoc (cut_of m.path e.path) (rising m xs) (is_empty r) ∙ ap (λ (b : Bool). cut_of m.path e.path && b) i

rising_parents : (n : ℕ) (e : Member) (r : List ℕ) → rising_end e (many one_member n r) ≡ parents_in e.path n r
unfolding parents_in
rising_parents zero e r = refl
rising_parents (suc n) e r = go (λ m q. rising_parents n m q) (one_member r)
  where
    go : ((m : Member) (q : List ℕ) → rising_end m (many one_member n q) ≡ parents_in m.path n q)
        → (x : Parse Member) → rising_end e (bind x (λ a q. bind (many one_member n q) (λ xs s. got (a ∷ xs) s))) ≡ above_then x e.path (λ path q. parents_in path n q)
    go f bad = refl
    go f (got m q) = rising-more e m (many one_member n q) (parents_in m.path n q) (f m q)

-- ---- the record

some-kept : (d : Device) (t : Bool) → is_some {A = Device} (elim t [ true ↦ Some d | false ↦ None ]) ≡ t
some-kept d true = refl
some-kept d false = refl

ended_parents : (h : Head) (ps : List Property) (e : Member) (y : Parse (List Member)) → is_some (ended (bind y (λ ms r. got (device_of h ps e ms) r))) ≡ (distinct (keys ps) && rising_end e y)
ended_parents h ps e bad = sym (and-false (distinct (keys ps)))
ended_parents h ps e (got ms []) =
    some-kept (device_of h ps e ms) (whole (device_of h ps e ms)) ∙ ap (λ (t : Bool). distinct (keys ps) && t) (sym (and-true (rising e ms)))
ended_parents h ps e (got ms (b ∷ bs)) =
    sym (ap (λ (t : Bool). distinct (keys ps) && t) (and-false (rising e ms)) ∙ and-false (distinct (keys ps)))

-- what follows the properties
module _ (h : Head) (ps : List Property) (r : List ℕ) where
  event_bad : one_member r ≡ bad → is_some (ended (event_on h ps r)) ≡ false
  event_bad e = rw e

  event_got : (m : Member) (q : List ℕ) → one_member r ≡ got m q → is_some (ended (event_on h ps r)) ≡ (distinct (keys ps) && parents_in m.path h.above q)
  event_got m q e =
      ap (λ (x : Parse Member). is_some (ended (bind x (λ e q. parents_on h ps e q)))) e
      ∙ ended_parents h ps m (many one_member h.above q)
      ∙ ap (λ (t : Bool). distinct (keys ps) && t) (rising_parents h.above m q)

  event_twice : distinct (keys ps) ≡ false → is_some (ended (event_on h ps r)) ≡ false
  event_twice d = go (one_member r) refl
    where
      go : (x : Parse Member) → one_member r ≡ x → is_some (ended (event_on h ps r)) ≡ false
      go bad e = event_bad e
      go (got m q) e = event_got m q e ∙ rw d

module _ (l : List ℕ) where
  pub record_long : most_device < length l → is_some (decode l) ≡ false
  unfolding decode
  record_long h = rw (lt-leb (length l) most_device h, decode)

  record_parts : length l ≤ most_device → decode l ≡ ended (parts l)
  unfolding decode
  record_parts h = rw (le-leb (length l) most_device h, decode)

  pub record_short : length l ≤ most_device → length l < 7 → is_some (decode l) ≡ false
  record_short h k = ap is_some (record_parts h) ∙ rw (head_cut 7 l k)

  module _ (h : length l ≤ most_device) (k : 7 ≤ length l) (n : Head) (e : n ≡ head_of (take 7 l)) where
    record_head : (t : Bool) → ok_head n ≡ t → decode l ≡ ended (bind (keep t n (drop 7 l)) props_on)
    record_head t o =
        record_parts h
        ∙ ap (λ (x : Parse (List ℕ)). ended (bind (bind x (λ head r. keep (ok_head (head_of head)) (head_of head) r)) props_on)) (head_whole 7 l k)
        ∙ ap (λ (x : Head). ended (bind (keep (ok_head x) x (drop 7 l)) props_on)) (sym e)
        ∙ ap (λ (x : Bool). ended (bind (keep x n (drop 7 l)) props_on)) o

    pub head_faulty : ok_head n ≡ false → is_some (decode l) ≡ false
    head_faulty o = ap is_some (record_head false o)

    module _ (o : ok_head n ≡ true) where
      abbrev row : Parse (List Property)
      row = many one_prop n.properties (drop 7 l)

      by_row : (ps : List Property) (r : List ℕ) → row ≡ got ps r → is_some (decode l) ≡ is_some (ended (event_on n ps r))
      by_row ps r q = ap is_some (record_head true o) ∙ ap (λ (x : Parse (List Property)). is_some (ended (bind x (λ ps q. event_on n ps q)))) q

      pub properties-faulty : end_of (length l) (apart row) ≡ None → is_some (decode l) ≡ false
      properties-faulty f = go row refl
        where
          twice : (t : Bool) (ps : List Property) (r : List ℕ) → keep t ps r ≡ bad → t ≡ false
          twice true ps r e = let z : ◌≡◌ {A = ℕ} 0 1 = cc in absurd (omega arith)
          twice false ps r e = refl

          go : (x : Parse (List Property)) → row ≡ x → is_some (decode l) ≡ false
          go bad q = ap is_some (record_head true o) ∙ rw q
          go (got ps r) q =
              by_row ps r q ∙ event_twice n ps r (twice (distinct (keys ps)) ps r (sym (ap apart q) ∙ end-bad (length l) (apart row) f))

      module _ (p : ℕ) (v : Event l n.properties p) where
        pub event_faulty : end_of (length l) (one_member (drop p l)) ≡ None → is_some (decode l) ≡ false
        event_faulty f = by_row v.properties (drop p l) v.read ∙ event_bad n v.properties (drop p l) (end-bad (length l) (one_member (drop p l)) f)

        pub chain-judged : (q : ℕ) → Next l p q → is_some (decode l) ≡ parents_in (path_in l p) n.above (drop q l)
        chain-judged q x =
            by_row v.properties (drop p l) v.read
            ∙ event_got n v.properties (drop p l) x.member (drop q l) x.read
            ∙ rw v.apart-keys (ap (λ (y : List ℕ). parents_in y n.above (drop q l)) (sym (lies_path l p x.member x.lies)))
