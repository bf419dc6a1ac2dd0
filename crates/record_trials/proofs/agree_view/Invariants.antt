-- `record_trials::agree_view` meets its contract: the device at each place stands at the offset.
use Rattle.std.proofs.Common.{◌≡◌}
use Rattle.std.specs.Prelude.{Some}
use Rattle.device.specs.Device.{Member, Device, decode}
use Rattle.device_view.specs.View.{Stands}
use Rattle.record_trials.proofs.agree_view.Given as goal

abbrev pub invariant-loop-here : goal.invariant-loop-here
invariant-loop-here l = (d : Device) → decode l.rec ≡ Some d → (m : Member) × Stands l.rec d l.here l.at m
