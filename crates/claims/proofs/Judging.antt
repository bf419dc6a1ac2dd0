-- The walk that judges the records of a set.
-- Assumes nothing.
use Prim.Native.Nat.{ℕ, suc, ◌+◌, ◌-◌, ◌≤◌, ◌<◌}
use mathlib.Core.Path.{◌≡◌, refl, sym, ap, ◌∙◌}
use mathlib.Core.Bool.{true, false}
use mathlib.Core.List.{List, [], ◌∷◌}
use Rattle.std.specs.Prelude.{Option, None, Some, Ok}
use native.Mathlib.Omega.{arith}
use native.Mathlib.Numerals.{add-one}
use lib.ListN.{length, drop, get_or}
use Rattle.lists.specs.Lists.{is_some}
use Rattle.lists.specs.Checked.{Checked, refused, ok, ◌>>=◌, found}
use Rattle.lists.specs.Refusal.{device_bad, outcome_bad, set_bad}
use Rattle.lists.proofs.Lists.{is_none, is-some}
use Rattle.lists.proofs.Moves.{ap_at}
use Rattle.entries.specs.Parse.{got, many}
use Rattle.device.specs.Device as D
use Rattle.device.specs.Device.{Device, chain}
use Rattle.device_lookup.specs.Lookup.{Chained}
use Rattle.device_lookup.specs.declared.Chain.{Chain}
use Rattle.outcome.specs.State as O
use Rattle.outcome.specs.State.{State}
use Rattle.outcome_target.specs.declared.Layout.{Layout}
use Rattle.outcome_check.specs.Check.{checked_of}
use Rattle.outcome_check.proofs.Answers.{sound-state, faulty-state}
use Rattle.engine.specs.Operations.{decode_for}
use Rattle.sets.specs.Lent.{most_records, Lent, one_lent, decode_lent}
use Rattle.sets.specs.Answer.{Fault, of_set, of_record}
use Rattle.set_rows.specs.Places.{lent_in, LentFrom, LentIs}
use Rattle.set_rows.specs.declared.LentPlace.{LentPlace}
use Rattle.set_rows.proofs.Walk.{Turn, set_read_lem, first-got, turn, many-length}
use Rattle.contest.specs.Operation.{states_from, states_of}
use Rattle.claims.specs.Judged.{VerdictIs}

-- ---- one record

module _ (dev out : List ℕ) where
  pub device_faulty : is_some (D.decode dev) ≡ false → (n : ℕ) (ls : List Lent) → states_from n (record { device = dev; outcome = out } ∷ ls) ≡ refused (of_record n device_bad)
  unfolding states_from
  device_faulty e n ls = rw (is_none (D.decode dev) e)

  module _ (d : Device) (e : D.decode dev ≡ Some d) (r : Chain) (c : Chained d r) where
    chained : decode_for d out ≡ O.decode r.len out
    unfolding decode_for
    chained = ap (λ (n : ℕ). O.decode n out) (sym c.len)

    pub outcome_faulty : None ≡ checked_of (O.decode r.len out) → (n : ℕ) (ls : List Lent) → states_from n (record { device = dev; outcome = out } ∷ ls) ≡ refused (of_record n outcome_bad)
    unfolding states_from
    outcome_faulty k n ls = rw (e, chained ∙ faulty-state (O.decode r.len out) k)

    pub both_sound : (lay : Layout) → Some lay ≡ checked_of (O.decode r.len out) → VerdictIs dev out (Ok tt)
    both_sound lay k = let (s, f, _) = sound-state (O.decode r.len out) lay k in (d, s, e, chained ∙ f)

-- ---- one after the other

-- why records are refused, if they are
abbrev pub fault_of : Checked Fault (List State) → Option Fault
fault_of (refused f) = Some f
fault_of (ok ss) = None

pub fault_of_lem : (c : Checked Fault (List State)) (f : Fault) → fault_of c ≡ Some f → c ≡ refused f
fault_of_lem (refused g) f e = let q : g ≡ f = cc in ap refused q
fault_of_lem (ok ss) f e = let z : ◌≡◌ {A = ℕ} 0 1 = cc in absurd (omega arith)

pub no-fault : (c : Checked Fault (List State)) → fault_of c ≡ None → (ss : List State) × (c ≡ ok ss)
no-fault (refused f) e = let z : ◌≡◌ {A = ℕ} 0 1 = cc in absurd (omega arith)
no-fault (ok ss) e = (ss, refl)

-- a sound record leaves it to the others
sound-first : (n : ℕ) (l : Lent) (ls : List Lent) → VerdictIs l.device l.outcome (Ok tt) → fault_of (states_from n (l ∷ ls)) ≡ fault_of (states_from (suc n) ls)
unfolding states_from
sound-first n l ls (d, s, e, f) = rw (e, f) (more (states_from (suc n) ls))
  where
    more : (c : Checked Fault (List State)) → fault_of (c >>= λ ss. ok (s ∷ ss)) ≡ fault_of c
    more (refused g) = refl
    more (ok ss) = refl

-- what is left of a set at place p behind i records, whose fault is the set's
pub record Left (set : List ℕ) (p i count : ℕ) : Type 0 where
  pub within : p ≤ length set
  pub few : count ≤ most_records
  pub some : i ≤ count
  pub lents : List Lent
  pub read : many one_lent (count - i) (drop p set) ≡ got lents []
  pub fault : fault_of (states_from (suc i) lents) ≡ fault_of (states_of set)

pub set-left : (set : List ℕ) (count : ℕ) → count ≡ get_or set 0 0 → is_some (decode_lent set) ≡ true → Left set 1 0 count
unfolding states_of
set-left set count c h =
    let (ls, e) = is-some (decode_lent set) h in
    let b = set_read_lem one_lent 0 most_records set ls e in
    record {
      within = b.some;
      few = omega (arith, b.few);
      some = omega arith;
      lents = ls;
      read = ap_at (λ n. many one_lent n (drop 1 set)) (count - 0) (get_or set 0 0) (omega arith) ∙ b.read;
      fault = sym (ap (λ (o : Option (List Lent)). fault_of (found o (of_set set_bad) >>= states_from 1)) e);
    }

pub set-none : (set : List ℕ) → is_some (decode_lent set) ≡ false → states_of set ≡ refused (of_set set_bad)
unfolding states_of
set-none set h = rw (is_none (decode_lent set) h)

pub set-counted : (set : List ℕ) → is_some (decode_lent set) ≡ true → 1 ≤ length set
set-counted set h = let (ls, e) = is-some (decode_lent set) h in (set_read_lem one_lent 0 most_records set ls e).some

module _ (set : List ℕ) (p i count : ℕ) (w : Left set p i count) (h : i < count) where
  pub left-from : LentFrom set p
  left-from =
      let (l, z, e) = first-got one_lent (count - i) (drop p set) w.lents [] (omega arith) w.read in
      record { within = w.within; lent = l; behind = z; read = e }

  module _ (r : LentPlace) (is : LentIs set p r) where
    here : Turn one_lent (count - i) (drop p set) (lent_in set r) (drop r.outcome.end set) w.lents []
    here = turn one_lent (count - i) (drop p set) (drop r.outcome.end set) (lent_in set r) w.lents [] (omega arith) is.read w.read

    fault-here : fault_of (states_from (suc i) (lent_in set r ∷ here.others)) ≡ fault_of (states_of set)
    fault-here = ap (λ (ls : List Lent). fault_of (states_from (suc i) ls)) (sym here.split) ∙ w.fault

    pub left-faulty : (f : Fault) → ((n : ℕ) (ls : List Lent) → states_from n (lent_in set r ∷ ls) ≡ refused (record { why = f.why; position = n; line = f.line }))
        → states_of set ≡ refused (record { why = f.why; position = i + 1; line = f.line })
    left-faulty f k =
        fault_of_lem (states_of set) (record { why = f.why; position = i + 1; line = f.line })
        (sym fault-here ∙ ap fault_of (k (suc i) here.others) ∙ ap (λ (n : ℕ). Some (record { why = f.why; position = n; line = f.line })) (sym (add-one i)))

    pub left-sound : VerdictIs (lent_in set r).device (lent_in set r).outcome (Ok tt) → Left set r.outcome.end (i + 1) count
    left-sound v = record {
      within = is.outcome.within;
      few = w.few;
      some = omega arith;
      lents = here.others;
      read = ap_at (λ n. many one_lent n (drop r.outcome.end set)) (count - (i + 1)) (count - i - 1) (omega arith) ∙ here.read;
      fault = ap_at (λ n. fault_of (states_from n here.others)) (suc (i + 1)) (suc (suc i)) (omega arith) ∙ sym (sound-first (suc i) (lent_in set r) here.others v) ∙ fault-here;
    }

pub left-none : (set : List ℕ) (p i count : ℕ) → Left set p i count → count ≤ i → (ss : List State) × (states_of set ≡ ok ss)
unfolding states_from
left-none set p i count w h =
    let n : count - i ≡ 0 = omega (arith, w.some) in
    let e : length w.lents ≡ 0 = many-length one_lent (count - i) (drop p set) w.lents [] w.read ∙ n in
    no-fault (states_of set) (sym w.fault ∙ at w.lents e)
  where
    at : (ls : List Lent) → length ls ≡ 0 → fault_of (states_from (suc i) ls) ≡ None
    at [] z = refl
    at (l ∷ ls) z = absurd (omega arith)
