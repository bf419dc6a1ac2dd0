-- Every answer has as many bytes as the target, and no run list is longer than 8,225 bytes.
-- Assumes nothing.
use Prim.Native.Nat.{ℕ, suc, ◌-◌, ◌≤◌}
use mathlib.Core.Path.{◌≡◌, refl, ap, ◌∙◌}
use mathlib.Core.Bool.{Bool, true, false}
use mathlib.Core.List.{List, [], ◌∷◌}
use Rattle.std.specs.Prelude.{Some}
use native.Mathlib.Omega.{arith}
use lib.Dec.{leb}
use lib.ListN.{length, replicate, length-append, length-replicate}
use borrow.Author.Tests.{leb-true}
use Rattle.lists.specs.Lists.{all, cat}
use Rattle.lists.specs.Bytes.{Bytes}
use Rattle.lists.specs.Checked.{Checked, refused, ok, require, found, Holds, Placed, line, on_line}
use Rattle.lists.specs.Refusal.{Refusal, target_short, device_bad, outcome_bad}
use Rattle.lists.specs.Sizes.{most_substituted, most_runs, fullest_outcome, fullest_run_list}
use Rattle.lists.proofs.Lists.{cat-size}
use Rattle.lists.proofs.Tests.{both_and}
use Rattle.lists.proofs.Checked.{holds-bind, holds-seq, holds-require, holds-found, holds-on_line}
use Rattle.bits.specs.Fields.{packed}
use Rattle.bits.proofs.Fields.{length-packed}
use Rattle.entries.specs.Entry.{Property}
use Rattle.device.specs.Device as D
use Rattle.device.specs.Device.{Device, chain}
use Rattle.outcome.specs.State as O
use Rattle.outcome.specs.State.{State, Run}
use Rattle.outcome.proofs.RoundTrip.{back}
use Rattle.outcome.proofs.Fits.{fits}
use Rattle.outcome.proofs.Fresh.{fresh_good}
use Rattle.engine.specs.Substitute.{Source, substituted, within, filled}
use Rattle.engine.specs.Operations.{decode_for, given, fresh_checked, fresh, Command, command_fields, enc_command, list_fields, run_list, commands, close_checked, close}

pub given-length : (room : ℕ) (c : Checked (Placed Refusal) (List ℕ)) → Holds (λ (made : List ℕ). length made ≤ room) c → length (given room c).bytes ≡ room
given-length room (refused (line n f)) h = length-replicate room 0
given-length room (ok made) h =
    length-append made (replicate (room - length made) 0) ∙ rw (length-replicate {A = ℕ} (room - length made) 0) (omega arith)

-- ---- the fresh record

fresh-fits : (dev : List ℕ) (room : ℕ) → Holds (λ (made : List ℕ). length made ≤ room) (fresh_checked dev room)
unfolding fresh_checked
fresh-fits dev room =
    let Q : List ℕ → Type 0 = λ made. length made ≤ room in
    holds-seq (λ (_ : Unit {0}). leb fullest_outcome room ≡ true) Q (require (leb fullest_outcome room) (line 0 target_short)) _ (holds-require (leb fullest_outcome room) (line 0 target_short))
    (λ _ full. holds-bind (λ (d : Device). D.decode dev ≡ Some d) Q (found (D.decode dev) (line 0 device_bad)) _ (holds-found (D.decode dev) (line 0 device_bad))
    (λ d is. omega (arith, fits (length (chain d)) (O.fresh d) (fresh_good dev d is), leb-true fullest_outcome room full)))

pub fresh-length : (dev : List ℕ) (room : ℕ) → length (fresh dev room).bytes ≡ room
unfolding fresh
fresh-length dev room = given-length room (fresh_checked dev room) (fresh-fits dev room)

-- ---- the run list

-- the text of an entry is a substituted one
abbrev pub short_text : Command → Bool
short_text c = leb (length c.text) most_substituted

filled_short : (spaceless : Bool) (c : Source) (t : List ℕ) → Holds (λ (x : List ℕ). leb (length x) most_substituted ≡ true) (filled spaceless c t)
unfolding filled
filled_short spaceless c t = at (leb (length (substituted spaceless c t)) most_substituted) refl
  where
    at : (b : Bool) → leb (length (substituted spaceless c t)) most_substituted ≡ b
        → Holds (λ (x : List ℕ). leb (length x) most_substituted ≡ true) (within (substituted spaceless c t))
    at true e = rw (e, within) e
    at false e = rw (e, within) tt

-- as many entries as runs
pub record Made (n : ℕ) (cs : List Command) : Type 0 where
  pub count : length cs ≡ n
  pub each : all short_text cs ≡ true

pub commands-made : (d : Device) (ps : List Property) (x : List ℕ) (rs : List Run) → Holds (Made (length rs)) (commands d ps x rs)
unfolding commands
commands-made d ps o [] = record { count = refl; each = refl }
commands-made d ps o (r ∷ rs) =
    let c : Source = record { device = d; place = r.place; properties = ps; output = o } in
    holds-bind (λ (x : List ℕ). leb (length x) most_substituted ≡ true) (Made (suc (length rs))) (filled false c r.template) _ (filled_short false c r.template)
    (λ x k. holds-bind (Made (length rs)) (Made (suc (length rs))) (commands d ps o rs) _ (commands-made d ps o rs)
    (λ cs m. record { count = ap suc m.count; each = both_and (leb (length x) most_substituted) (all short_text cs) k m.each }))

command_size : (c : Command) → short_text c ≡ true → length (enc_command c) ≤ 514
command_size c h =
    omega (arith, length-append (packed (command_fields c)) c.text, length-packed (command_fields c) 2 refl, leb-true (length c.text) most_substituted h)

pub list_size : (n : ℕ) (cs : List Command) → Made n cs → n ≤ most_runs → length (run_list cs) ≤ fullest_run_list
unfolding run_list
list_size n cs m h =
    let a = cat-size enc_command short_text 514 command_size cs m.each in
    let b = m.count in
    omega (arith, length-append (packed (list_fields cs)) (cat enc_command cs), length-packed (list_fields cs) 1 refl)

close-fits : (dev out : List ℕ) (room : ℕ) → Bytes out → Holds (λ (made : List ℕ). length made ≤ room) (close_checked dev out room)
unfolding close_checked decode_for
close-fits dev out room by =
    let Q : List ℕ → Type 0 = λ made. length made ≤ room in
    holds-seq (λ (_ : Unit {0}). leb fullest_run_list room ≡ true) Q (require (leb fullest_run_list room) (line 0 target_short)) _ (holds-require (leb fullest_run_list room) (line 0 target_short))
    (λ _ full. holds-bind (λ (d : Device). D.decode dev ≡ Some d) Q (found (D.decode dev) (line 0 device_bad)) _ (holds-found (D.decode dev) (line 0 device_bad))
    (λ d is. holds-bind (λ (s : State). O.decode (length (chain d)) out ≡ Some s) Q (found (O.decode (length (chain d)) out) (line 0 outcome_bad)) _ (holds-found (O.decode (length (chain d)) out) (line 0 outcome_bad))
    (λ s at. holds-bind (Made (length s.runs)) Q (on_line 0 (commands d s.properties s.output s.runs)) _
    (holds-on_line (Made (length s.runs)) 0 (commands d s.properties s.output s.runs) (commands-made d s.properties s.output s.runs))
    (λ cs m. omega (arith, list_size (length s.runs) cs m (back (length (chain d)) out s by at).1.runs.few, leb-true fullest_run_list room full)))))

pub close-length : (dev out : List ℕ) (room : ℕ) → Bytes out → length (close dev out room).bytes ≡ room
unfolding close
close-length dev out room by = given-length room (close_checked dev out room) (close-fits dev out room by)
