-- The records of a set that is not refused, from a place on.
-- Assumes nothing.
use Prim.Native.Nat.{ℕ, zero, suc, ◌≤◌, ◌<◌}
use mathlib.Core.Path.{◌≡◌, refl, sym, ap, ◌∙◌, subst}
use mathlib.Core.List.{List, [], ◌∷◌}
use Rattle.std.specs.Prelude.{Option, None, Some}
use native.Mathlib.Omega.{arith}
use lib.ListN.{length, drop, get_or}
use Rattle.lists.specs.Checked.{Checked, refused, ok, ◌>>=◌, found}
use Rattle.lists.specs.Refusal.{device_bad, outcome_bad, set_bad}
use Rattle.entries.specs.Parse.{got, many}
use Rattle.entries.proofs.Rows.{through}
use Rattle.device.specs.Device as D
use Rattle.device.specs.Device.{Device, chain}
use Rattle.outcome.specs.State.{State, decode}
use Rattle.engine.specs.Operations.{decode_for}
use Rattle.sets.specs.Lent.{most_records, Lent, one_lent, decode_lent}
use Rattle.sets.specs.Answer.{Fault, of_set, of_record}
use Rattle.set_rows.specs.Places.{bytes_in, lent_in, LentFrom, LentIs}
use Rattle.set_rows.specs.declared.LentPlace.{LentPlace}
use Rattle.set_rows.proofs.Walk.{set_read_lem, many-length}
use Rattle.contest.specs.Operation.{states_from, states_of}
use Rattle.claims.specs.Records.{or_none, states_in, Stand, Standing, StandsAt}

-- ---- from what was read to what stands there

bound : {A B : Type 0} (c : Checked Fault A) (k : A → Checked Fault B) (b : B) → (c >>= k) ≡ ok b → (a : A) × (c ≡ ok a) × (k a ≡ ok b)
bound (refused f) k b e = let z : ◌≡◌ {A = ℕ} 0 1 = cc in absurd (omega arith)
bound (ok a) k b e = (a, refl, e)

found_ok : {A : Type 0} (o : Option A) (f : Fault) (a : A) → found o f ≡ ok a → o ≡ Some a
found_ok None f a e = let z : ◌≡◌ {A = ℕ} 0 1 = cc in absurd (omega arith)
found_ok (Some b) f a e = let q : b ≡ a = cc in ap Some q

-- the states of a record and of those behind it
record Split (n : ℕ) (l : Lent) (ls : List Lent) (ss : List State) : Type 0 where
  chain : ℕ
  state : State
  others : List State
  split : ss ≡ state ∷ others
  held : decode chain l.outcome ≡ Some state
  behind : states_from (suc n) ls ≡ ok others

split_of : (n : ℕ) (l : Lent) (ls : List Lent) (ss : List State) → states_from n (l ∷ ls) ≡ ok ss → Split n l ls ss
unfolding states_from decode_for
split_of n l ls ss e =
    let (d, _, e₁) = bound (found (D.decode l.device) (of_record n device_bad)) _ ss e in
    let (s, f, e₂) = bound (found (decode_for d l.outcome) (of_record n outcome_bad)) _ ss e₁ in
    let (os, g, e₃) = bound (states_from (suc n) ls) _ ss e₂ in
    let q : ss ≡ s ∷ os = cc in
    record { chain = length (chain d); state = s; others = os; split = q; held = found_ok (decode_for d l.outcome) (of_record n outcome_bad) s f; behind = g }

stand_of : (m n : ℕ) (bs : List ℕ) (ls : List Lent) (ss : List State) → many one_lent m bs ≡ got ls [] → states_from n ls ≡ ok ss → Stand bs ss
unfolding states_from
stand_of zero n bs ls ss r e =
    let q : ls ≡ [] = cc in
    let f : ok [] ≡ ok ss = ap (states_from n) (sym q) ∙ e in
    let p : ss ≡ [] = cc in
    subst (Stand bs) (sym p) tt
stand_of (suc m) n bs ls ss r e =
    through (one_lent bs) _ ls [] r λ l z e₁ r₁.
    through (many one_lent m z) _ ls [] r₁ λ ks q e₂ r₂.
    let a : ls ≡ l ∷ ks = cc in
    let b : q ≡ [] = cc in
    let s = split_of n l ks ss (ap (states_from n) (sym a) ∙ e) in
    subst (Stand bs) (sym s.split)
    (z, record { chain = s.chain; lent = l; read = e₁; held = s.held }, stand_of m (suc n) z ks s.others (e₂ ∙ ap (got ks) b) s.behind)

states_length : (n : ℕ) (ls : List Lent) (ss : List State) → states_from n ls ≡ ok ss → length ss ≡ length ls
unfolding states_from
states_length n [] ss e = let p : ss ≡ [] = cc in ap length p
states_length n (l ∷ ls) ss e = let s = split_of n l ls ss e in ap length s.split ∙ ap suc (states_length (suc n) ls s.others s.behind)

-- ---- a set that is not refused

pub record Whole (set : List ℕ) : Type 0 where
  pub some : 1 ≤ length set
  pub few : length (states_in set) ≤ most_records
  pub counted : get_or set 0 0 ≡ length (states_in set)
  pub standing : Standing set 1 (states_in set)

pub set-whole : (set : List ℕ) (ss : List State) → states_of set ≡ ok ss → (states_in set ≡ ss) × Whole set
unfolding states_of states_in
set-whole set ss e =
    let (ls, f, g) = bound (found (decode_lent set) (of_set set_bad)) (states_from 1) ss e in
    let b = set_read_lem one_lent 0 most_records set ls (found_ok (decode_lent set) (of_set set_bad) ls f) in
    let is : or_none (found (decode_lent set) (of_set set_bad) >>= states_from 1) ≡ ss = ap or_none e in
    let n : get_or set 0 0 ≡ length ss = sym (states_length 1 ls ss g ∙ many-length one_lent (get_or set 0 0) (drop 1 set) ls [] b.read) in (
      is,
      record {
        some = b.some;
        few = subst (λ (xs : List State). length xs ≤ most_records) (sym is) (omega (arith, b.few));
        counted = n ∙ ap length (sym is);
        standing = record { within = b.some; records = subst (Stand (drop 1 set)) (sym is) (stand_of (get_or set 0 0) 1 (drop 1 set) ls ss b.read g) };
      },
    )

-- ---- the first of records

pub first-from : (set : List ℕ) (p : ℕ) → StandsAt set p → LentFrom set p
first-from set p (s, ss, w) = let (z, f, _) = w.records in record { within = w.within; lent = f.lent; behind = z; read = f.read }

-- by the places that code has
pub record Here (set : List ℕ) (r : LentPlace) (s : State) (ss : List State) : Type 0 where
  pub chain : ℕ
  pub held : decode chain (bytes_in set r.outcome) ≡ Some s
  pub others : Standing set r.outcome.end ss

pub first-here : (set : List ℕ) (p : ℕ) (r : LentPlace) → LentIs set p r → (s : State) (ss : List State) → Standing set p (s ∷ ss) → Here set r s ss
first-here set p r is s ss w =
    let (z, f, g) = w.records in
    let same : got f.lent z ≡ got (lent_in set r) (drop r.outcome.end set) = sym f.read ∙ is.read in
    let a : f.lent ≡ lent_in set r = cc in
    let b : z ≡ drop r.outcome.end set = cc in
    record {
      chain = f.chain;
      held = ap (λ (l : Lent). decode f.chain l.outcome) (sym a) ∙ f.held;
      others = record { within = is.outcome.within; records = subst (λ (x : List ℕ). Stand x ss) b g };
    }

-- the record with index i
pub next_of : (ss : List State) (i : ℕ) → i < length ss → (s : State) × (drop i ss ≡ s ∷ drop (suc i) ss)
next_of [] i h = absurd (omega arith)
next_of (s ∷ ss) zero h = (s, refl)
next_of (s ∷ ss) (suc i) h = next_of ss i (omega arith)
