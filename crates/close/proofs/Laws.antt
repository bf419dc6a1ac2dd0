-- What the close gives back in each case.
-- Assumes nothing.
use Prim.Native.Nat.{ℕ, ◌+◌, ◌-◌, ◌≤◌, ◌<◌}
use mathlib.Core.Path.{◌≡◌, refl, sym, ap, ◌∙◌}
use mathlib.Core.Bool.{false}
use mathlib.Core.List.{List, [], ◌++◌}
use Rattle.std.specs.Prelude.{None, Some}
use borrow.Author.Tests.{le-leb, lt-leb}
use lib.ListN.{length, replicate}
use Rattle.lists.proofs.Lists.{is_none}
use Rattle.lists.specs.Lists.{is_some}
use Rattle.lists.specs.Checked.{Checked, refused, ok, line}
use Rattle.lists.specs.Refusal.{Refusal, target_short, device_bad, outcome_bad, substitution_long}
use Rattle.lists.specs.Sizes.{fullest_run_list}
use Rattle.splice.proofs.Laws.{clear_padded, append-padded}
use Rattle.text.specs.Run.{refusal, acceptance}
use Rattle.device.specs.Device as D
use Rattle.device.specs.Device.{Device, chain}
use Rattle.device_lookup.specs.Lookup.{Chained}
use Rattle.device_lookup.specs.declared.Chain.{Chain}
use Rattle.outcome.specs.State as O
use Rattle.outcome.specs.State.{State}
use Rattle.outcome_target.specs.declared.Layout.{Layout}
use Rattle.outcome_check.proofs.Answers.{sound-state, faulty-state}
use Rattle.outcome_check.specs.Check.{checked_of}
use Rattle.engine.specs.Operations.{Command, run_list, commands, given, decode_for, close_checked, close}
use Rattle.insertion.specs.Append.{Placed}
use Rattle.run_list.specs.Records.{Both}
use Rattle.close.specs.Closing.{listed}

-- ---- refused before the list is made

module _ (dev out : List ℕ) (room : ℕ) where
  pub close_short : room < fullest_run_list → close dev out room ≡ refusal room (line 0 target_short)
  unfolding close close_checked
  close_short h = rw (lt-leb fullest_run_list room h)

  module _ (h : fullest_run_list ≤ room) where
    pub close_device : is_some (D.decode dev) ≡ false → close dev out room ≡ refusal room (line 0 device_bad)
    unfolding close close_checked
    close_device k = rw (le-leb fullest_run_list room h, is_none (D.decode dev) k)

    module _ (d : Device) (e : D.decode dev ≡ Some d) (r : Chain) (c : Chained d r) where
      pub close_outcome : None ≡ checked_of (O.decode r.len out) → close dev out room ≡ refusal room (line 0 outcome_bad)
      unfolding close close_checked decode_for
      close_outcome k =
          let f : O.decode (length (chain d)) out ≡ None = ap (λ (n : ℕ). O.decode n out) (sym c.len) ∙ faulty-state (O.decode r.len out) k in
          rw (le-leb fullest_run_list room h, e, f)

      -- both records are sound
      pub close_both : (lay : Layout) → Some lay ≡ checked_of (O.decode r.len out) → (s : State) × Both dev out r lay d s
      unfolding decode_for
      close_both lay k =
          let (s, f, g) = sound-state (O.decode r.len out) lay k in
          (s, record { device = e; chained = c; outcome = ap (λ (n : ℕ). O.decode n out) (sym c.len) ∙ f; layout = g })

    pub close-listed : (r : Chain) (lay : Layout) (d : Device) (s : State) → Both dev out r lay d s → close dev out room ≡ given room (listed (commands d s.properties s.output s.runs))
    unfolding close close_checked
    close-listed r lay d s w = rw (le-leb fullest_run_list room h, w.device, w.outcome)

-- ---- the list

-- it stands where zeros were
pub list_bytes : (t x t' : List ℕ) (n k : ℕ) → t ≡ replicate n 0 → Placed x t 0 k t' → t' ≡ x ++ replicate (n - length x) 0
list_bytes t x t' n k e p = p.bytes ∙ append-padded [] x n 0 t (e ∙ clear_padded n) refl

pub listed-given : (room : ℕ) (o : Checked Refusal (List Command)) (cs : List Command) → o ≡ ok cs → acceptance room 0 0 (run_list cs) ≡ given room (listed o)
listed-given room o cs e = rw e

pub refused-given : (room : ℕ) (o : Checked Refusal (List Command)) → o ≡ refused substitution_long → refusal room (line 0 substitution_long) ≡ given room (listed o)
refused-given room o e = rw e
