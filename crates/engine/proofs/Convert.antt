-- Document 02, Item 5: one converter undoes the other, byte for byte, in either order; and every answer of a converter has as many bytes as its target.
-- Assumes nothing.
use Prim.Native.Nat.{ℕ, ◌-◌, ◌≤◌}
use mathlib.Core.Path.{◌≡◌, sym, subst}
use mathlib.Core.Bool.{true}
use mathlib.Core.List.{List}
use Rattle.std.specs.Prelude.{Some}
use native.Mathlib.Omega.{arith}
use lib.Dec.{leb}
use lib.ListN.{length, take, replicate}
use lib.Seq.{take-append_seam}
use borrow.Author.Tests.{leb-true, le-leb}
use Rattle.lists.specs.Bytes.{Bytes}
use Rattle.lists.specs.Checked.{Checked, refused, ok, require, found, Holds, Placed, line}
use Rattle.lists.specs.Refusal.{Refusal, target_short, device_bad, outcome_bad, too_new}
use Rattle.lists.specs.Sizes.{fullest_outcome, fullest_old}
use Rattle.lists.proofs.Checked.{holds-bind, holds-seq, holds-require, holds-found}
use Rattle.device.specs.Device as D
use Rattle.device.specs.Device.{Device, chain}
use Rattle.outcome.specs.State as O
use Rattle.outcome.specs.State.{State}
use Rattle.outcome.specs.Old.{plain, encode_old, decode_old}
use Rattle.outcome.proofs.RoundTrip.{there, back}
use Rattle.outcome.proofs.Fits.{fits}
use Rattle.outcome.proofs.Old.{there_old, back_old, old_size}
use Rattle.text.specs.Run.{Answer, acceptance}
use Rattle.text.proofs.Runs.{refusal-number}
use Rattle.engine.specs.Operations.{decode_for, given}
use Rattle.engine.specs.Convert.{decode_old_for, newer_checked, newer, older_checked, older}
use Rattle.engine.proofs.Sizes.{given-length}

-- the record that an answer leaves
abbrev pub left : Answer → List ℕ
left a = take a.used a.bytes

-- a fact of what is made holds of what an accepted answer leaves
given-left : (P : List ℕ → Type 0) (room : ℕ) (c : Checked (Placed Refusal) (List ℕ)) → Holds P c → (given room c).number ≡ 0 → P (left (given room c))
given-left P room (refused (line n f)) h e = absurd (omega (arith, e, (refusal-number f).1))
given-left P room (ok made) h e = subst P (sym (take-append_seam made (replicate (room - length made) 0))) h

module _ (dev out : List ℕ) (room : ℕ) (by : Bytes out) where
  -- what the other converter gives of a record that was made here
  abbrev BackOld : List ℕ → Type 0
  BackOld made = (r : ℕ) → fullest_old ≤ r → older dev made r ≡ acceptance r 0 0 out

  abbrev BackNew : List ℕ → Type 0
  BackNew made = (r : ℕ) → fullest_outcome ≤ r → newer dev made r ≡ acceptance r 0 0 out

  newer-back : Holds BackOld (newer_checked dev out room)
  unfolding newer_checked decode_old_for older older_checked decode_for
  newer-back =
      holds-seq (λ (_ : Unit {0}). leb fullest_outcome room ≡ true) BackOld (require (leb fullest_outcome room) (line 0 target_short)) _ (holds-require (leb fullest_outcome room) (line 0 target_short))
      (λ _ full. holds-bind (λ (d : Device). D.decode dev ≡ Some d) BackOld (found (D.decode dev) (line 0 device_bad)) _ (holds-found (D.decode dev) (line 0 device_bad))
      (λ d is. holds-bind (λ (s : State). decode_old (length (chain d)) out ≡ Some s) BackOld (found (decode_old (length (chain d)) out) (line 0 outcome_bad)) _ (holds-found (decode_old (length (chain d)) out) (line 0 outcome_bad))
      (λ s at. answers d is s at)))
    where
      answers : (d : Device) → D.decode dev ≡ Some d → (s : State) → decode_old (length (chain d)) out ≡ Some s → BackOld (O.encode s)
      answers d is s at r h =
          let k = back_old (length (chain d)) out s by at in
          rw (le-leb fullest_old r h, is, there (length (chain d)) s k.good, k.plain-state, k.packs)

  older-back : Holds BackNew (older_checked dev out room)
  unfolding older_checked decode_for newer newer_checked decode_old_for
  older-back =
      holds-seq (λ (_ : Unit {0}). leb fullest_old room ≡ true) BackNew (require (leb fullest_old room) (line 0 target_short)) _ (holds-require (leb fullest_old room) (line 0 target_short))
      (λ _ full. holds-bind (λ (d : Device). D.decode dev ≡ Some d) BackNew (found (D.decode dev) (line 0 device_bad)) _ (holds-found (D.decode dev) (line 0 device_bad))
      (λ d is. holds-bind (λ (s : State). O.decode (length (chain d)) out ≡ Some s) BackNew (found (O.decode (length (chain d)) out) (line 0 outcome_bad)) _ (holds-found (O.decode (length (chain d)) out) (line 0 outcome_bad))
      (λ s at. holds-seq (λ (_ : Unit {0}). plain s ≡ true) BackNew (require (plain s) (line 0 too_new)) _ (holds-require (plain s) (line 0 too_new))
      (λ _ p. answers d is s at p))))
    where
      answers : (d : Device) → D.decode dev ≡ Some d → (s : State) → O.decode (length (chain d)) out ≡ Some s → plain s ≡ true → BackNew (encode_old s)
      answers d is s at p r h =
          rw (le-leb fullest_outcome r h, is, there_old (length (chain d)) out s by at p, (back (length (chain d)) out s by at).0)

  -- old to new and back, in any room that is enough
  pub old_new_old : (newer dev out room).number ≡ 0 → (r : ℕ) → fullest_old ≤ r → older dev (left (newer dev out room)) r ≡ acceptance r 0 0 out
  unfolding newer
  old_new_old e r h = given-left BackOld room (newer_checked dev out room) newer-back e r h

  -- new to old and back
  pub new_old_new : (older dev out room).number ≡ 0 → (r : ℕ) → fullest_outcome ≤ r → newer dev (left (older dev out room)) r ≡ acceptance r 0 0 out
  unfolding older
  new_old_new e r h = given-left BackNew room (older_checked dev out room) older-back e r h

  -- ---- sizes

  newer-fits : Holds (λ (made : List ℕ). length made ≤ room) (newer_checked dev out room)
  unfolding newer_checked decode_old_for
  newer-fits =
      let Q : List ℕ → Type 0 = λ made. length made ≤ room in
      holds-seq (λ (_ : Unit {0}). leb fullest_outcome room ≡ true) Q (require (leb fullest_outcome room) (line 0 target_short)) _ (holds-require (leb fullest_outcome room) (line 0 target_short))
      (λ _ full. holds-bind (λ (d : Device). D.decode dev ≡ Some d) Q (found (D.decode dev) (line 0 device_bad)) _ (holds-found (D.decode dev) (line 0 device_bad))
      (λ d is. holds-bind (λ (s : State). decode_old (length (chain d)) out ≡ Some s) Q (found (decode_old (length (chain d)) out) (line 0 outcome_bad)) _ (holds-found (decode_old (length (chain d)) out) (line 0 outcome_bad))
      (λ s at. omega (arith, fits (length (chain d)) s (back_old (length (chain d)) out s by at).good, leb-true fullest_outcome room full))))

  pub newer-length : length (newer dev out room).bytes ≡ room
  unfolding newer
  newer-length = given-length room (newer_checked dev out room) newer-fits

  older-fits : Holds (λ (made : List ℕ). length made ≤ room) (older_checked dev out room)
  unfolding older_checked decode_for
  older-fits =
      let Q : List ℕ → Type 0 = λ made. length made ≤ room in
      holds-seq (λ (_ : Unit {0}). leb fullest_old room ≡ true) Q (require (leb fullest_old room) (line 0 target_short)) _ (holds-require (leb fullest_old room) (line 0 target_short))
      (λ _ full. holds-bind (λ (d : Device). D.decode dev ≡ Some d) Q (found (D.decode dev) (line 0 device_bad)) _ (holds-found (D.decode dev) (line 0 device_bad))
      (λ d is. holds-bind (λ (s : State). O.decode (length (chain d)) out ≡ Some s) Q (found (O.decode (length (chain d)) out) (line 0 outcome_bad)) _ (holds-found (O.decode (length (chain d)) out) (line 0 outcome_bad))
      (λ s at. holds-seq (λ (_ : Unit {0}). plain s ≡ true) Q (require (plain s) (line 0 too_new)) _ (holds-require (plain s) (line 0 too_new))
      (λ _ p. omega (arith, old_size (length (chain d)) out s by at p, leb-true fullest_old room full)))))

  pub older-length : length (older dev out room).bytes ≡ room
  unfolding older
  older-length = given-length room (older_checked dev out room) older-fits
