-- The bytes of a fresh record, and what is given back in each case.
-- Assumes nothing.
use Prim.Native.Nat.{ℕ, ◌+◌, ◌-◌, ◌≤◌, ◌<◌}
use mathlib.Core.Path.{◌≡◌, refl, sym, ap, ◌∙◌}
use mathlib.Core.Bool.{false}
use mathlib.Core.List.{List, [], ◌++◌, append-nil}
use Rattle.std.specs.Prelude.{Some}
use native.Mathlib.Omega.{arith}
use borrow.Author.Tests.{le-leb, lt-leb}
use lib.ListN.{length, replicate, replicate-append-replicate}
use Rattle.lists.proofs.Lists.{is_none}
use Rattle.lists.specs.Lists.{cat, is_some}
use Rattle.lists.specs.Bytes.{Bytes}
use Rattle.lists.specs.Checked.{line}
use Rattle.lists.specs.Refusal.{target_short, device_bad}
use Rattle.lists.specs.Sizes.{fullest_outcome}
use Rattle.lists.proofs.Moves.{ap_at}
use Rattle.bits.specs.Bits.{put_at, bytes_of, from_bits, to_bits}
use Rattle.bits.specs.Fields.{packed}
use Rattle.splice.specs.Moves.{stored, padded}
use Rattle.splice.proofs.Laws.{append-padded}
use Rattle.entries.specs.Entry.{enc_prop}
use Rattle.entries.proofs.Heads.{number-first}
use Rattle.text.specs.Run.{refusal, acceptance}
use Rattle.device.specs.Head as head
use Rattle.device.specs.Device as device
use Rattle.device.specs.Device.{Device, chain}
use Rattle.outcome.specs.Head.{Head, header_size, header}
use Rattle.outcome.specs.State.{encode, fresh, head_for, open_all}
use Rattle.outcome.proofs.Head.{header-length}
use Rattle.outcome.proofs.Fits.{encode-size, fits}
use Rattle.outcome.proofs.Fresh.{fresh_good}
use Rattle.outcome_target.proofs.Edits.{put-header}
use Rattle.device_head.specs.Read.{HeadRead}
use Rattle.device_head.specs.declared.Head as read
use Rattle.device_lookup.proofs.Devices.{count-is}
use Rattle.engine.specs.Operations as operations

-- ---- the bytes

-- the header of no edition and no entries, then with edition 2, then with a count of properties
head_with : ℕ → ℕ → Head
head_with edition properties =
    record {
      edition = edition;
      closed = open_all;
      owner = 0;
      group = 0;
      mode_set = 0;
      mode = 0;
      priority = 0;
      links = 0;
      properties = properties;
      tags = 0;
      runs = 0;
      output = 0;
      watch = 0;
      unused = 0;
    }

zeros : header (head_with 0 0) ≡ replicate header_size 0
unfolding header head_with packed bytes_of from_bits to_bits
zeros = refl

module _ (m : ℕ) (t₀ t₁ t₂ t₃ : List ℕ) (room : header_size ≤ m) (e₀ : t₀ ≡ replicate m 0) (b₀ : Bytes t₀) (e₁ : t₁ ≡ put_at t₀ 0 4 2) (b₁ : Bytes t₁) where
  pub made : (d : Device) (n : ℕ) (x : List ℕ) → n ≡ length d.properties → x ≡ cat enc_prop d.properties → t₂ ≡ put_at t₁ 72 6 n → t₃ ≡ stored t₂ header_size x → t₃ ≡ padded m (encode (fresh d))
  unfolding encode fresh head_with
  made d n x f g e₂ e₃ =
      let u₀ : t₀ ≡ padded m (header (head_with 0 0) ++ []) =
      e₀
      ∙ ap_at (λ i. replicate i 0) m (header_size + (m - header_size)) (omega arith)
      ∙ sym (replicate-append-replicate header_size (m - header_size) 0)
      ∙ ap (λ (z : List ℕ). z ++ replicate (m - length z) 0) (sym zeros ∙ sym (append-nil (header (head_with 0 0))))
      in
      let u₁ : t₁ ≡ padded m (header (head_with 2 0) ++ []) = put-header (head_with 0 0) (head_with 2 0) 0 2 m [] t₀ t₁ (omega arith) refl u₀ b₀ e₁ in
      let u₂ : t₂ ≡ padded m (header (head_with 2 n) ++ []) = put-header (head_with 2 0) (head_with 2 n) 13 n m [] t₁ t₂ (omega arith) refl u₁ b₁ e₂ in
      let h : header (head_with 2 n) ++ [] ≡ header (head_for (fresh d)) = append-nil (header (head_with 2 n)) ∙ ap (λ (i : ℕ). header (head_with 2 i)) f in
      e₃
      ∙ append-padded (header (head_for (fresh d))) x m header_size t₂ (u₂ ∙ ap (padded m) h) (header-length (head_for (fresh d)))
      ∙ ap (λ (z : List ℕ). padded m (header (head_for (fresh d)) ++ z)) (g ∙ sym (append-nil (cat enc_prop d.properties)))

pub made-length : (d : Device) (x : List ℕ) → x ≡ cat enc_prop d.properties → header_size + length x ≡ length (encode (fresh d))
unfolding encode fresh
made-length d x g = ap (λ (z : List ℕ). header_size + length z) g ∙ sym (encode-size (fresh d) ∙ omega arith)

-- a record of 18,125 bytes at most
pub made-fits : (bs : List ℕ) (d : Device) → device.decode bs ≡ Some d → length (encode (fresh d)) ≤ fullest_outcome
made-fits bs d e = fits (length (chain d)) (fresh d) (fresh_good bs d e)

-- how many properties the header says
pub head_count : (l : List ℕ) (d : Device) (r : read.Head) → Bytes l → device.decode l ≡ Some d → 7 ≤ length l → HeadRead l r → r.properties ≡ length d.properties
head_count l d r b e k h = ap (λ (x : head.Head). x.properties) h.is ∙ number-first l 7 44 6 k (omega arith) ∙ count-is l d b e

-- ---- what is given back

module _ (dev : List ℕ) (room : ℕ) where
  pub given_short : room < fullest_outcome → operations.fresh dev room ≡ refusal room (line 0 target_short)
  unfolding operations.fresh operations.fresh_checked
  given_short h = rw (lt-leb fullest_outcome room h)

  pub given-faulty : fullest_outcome ≤ room → is_some (device.decode dev) ≡ false → operations.fresh dev room ≡ refusal room (line 0 device_bad)
  unfolding operations.fresh operations.fresh_checked
  given-faulty h k = rw (le-leb fullest_outcome room h, is_none (device.decode dev) k)

  pub given_made : fullest_outcome ≤ room → (d : Device) → device.decode dev ≡ Some d → operations.fresh dev room ≡ acceptance room 0 0 (encode (fresh d))
  unfolding operations.fresh operations.fresh_checked
  given_made h d e = rw (le-leb fullest_outcome room h, e)
