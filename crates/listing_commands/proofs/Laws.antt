-- The lines of a run list: one entry and the others; and what they are of the commands that the list was made of.
-- Assumes nothing.
use Prim.Native.Nat.{ℕ, zero, suc, ◌+◌, ◌-◌, ◌≤◌, ◌<◌}
use mathlib.Core.Path.{◌≡◌, refl, sym, ap, ap₂, ◌∙◌, subst}
use mathlib.Core.Bool.{Bool, true, false}
use mathlib.Core.List.{List, [], ◌∷◌, ◌++◌, append_assoc}
use native.Mathlib.Omega.{arith}
use native.Mathlib.Nat.{not-suc-le-zero}
use lib.Dec.{eqb}
use lib.ListN.{length, take, drop, length-append, length-drop}
use lib.Seq.{take_all, take_at, drop_at, drop-drop}
use Rattle.lists.specs.Lists.{All, cat}
use Rattle.lists.specs.Quoted.{bytes}
use Rattle.lists.proofs.Moves.{ap_at}
use Rattle.bits.specs.Bits.{number_at}
use Rattle.bits.specs.Fields.{packed}
use Rattle.bits.proofs.Fields.{read_packed, length-packed}
use Rattle.bits.specs.Fields.{bit, flag_at}
use Rattle.bits.proofs.Fields.{bit_small, eqb-bit}
use Rattle.engine.specs.Operations.{Command, command_fields, enc_command, list_fields, run_list}
use Rattle.engine.specs.Listing.{escaped, line_of, command_line}
use Rattle.insertion.specs.Append.{Placed}
use Rattle.listing_lines.proofs.Laws.{Leads, leads_more, leads_full, leads_last}
use Rattle.listing_commands.specs.Lines.{size, first, First, Entries, Stands, entry_lines}
use Rattle.listing_commands.specs.declared.CommandHead.{CommandHead}

-- ---- one entry, and the others

entries_first : (left : ℕ) (bs : List ℕ) → 0 < left → Entries left bs → (size bs ≤ length bs) × Entries (left - 1) (drop (size bs) bs)
entries_first zero bs h w = absurd (not-suc-le-zero h)
entries_first (suc n) bs h (a, w) = let e : n ≡ suc n - 1 = omega arith in (a, subst (λ (i : ℕ). Entries i (drop (size bs) bs)) e w)

lines-first : (left : ℕ) (bs : List ℕ) → 0 < left → entry_lines left bs ≡ command_line (first bs) ++ entry_lines (left - 1) (drop (size bs) bs)
lines-first zero bs h = absurd (not-suc-le-zero h)
lines-first (suc n) bs h = ap_at (λ i. command_line (first bs) ++ entry_lines i (drop (size bs) bs)) n (suc n - 1) (omega arith)

pub rest_part : (l : List ℕ) (at : ℕ) → take (length l - at) (drop at l) ≡ drop at l
rest_part l at = take_all (length l - at) (drop at l) (omega (arith, length-drop at l))

-- the entry that stands at a place of the list, by its head
module _ (l : List ℕ) (at left : ℕ) (h : 0 < left) (w : Entries left (drop at l)) where
  pub entry_head : at ≤ length l → at + 2 ≤ length l
  entry_head i = omega (arith, (entries_first left (drop at l) h w).0, length-drop at l)

  module _ (r : CommandHead) (f : First (drop at l) r) where
    pub entry-size : at ≤ length l → at + 2 + r.len ≤ length l
    entry-size i = omega (arith, (entries_first left (drop at l) h w).0, length-drop at l, f.len)

    next_place : drop (size (drop at l)) (drop at l) ≡ drop (at + 2 + r.len) l
    next_place = drop-drop (size (drop at l)) at l ∙ ap_at (λ i. drop i l) (at + size (drop at l)) (at + 2 + r.len) (omega (arith, f.len))

    pub entries_next : Entries (left - 1) (drop (at + 2 + r.len) l)
    entries_next = subst (Entries (left - 1)) next_place (entries_first left (drop at l) h w).1

    -- its command
    abbrev here : Command
    here = record { builtin = r.builtin; text = take (at + 2 + r.len - (at + 2)) (drop (at + 2) l) }

    here-first : here ≡ first (drop at l)
    here-first =
        let t : here.text ≡ (first (drop at l)).text =
        ap_at (λ i. take i (drop (at + 2) l)) (at + 2 + r.len - (at + 2)) (number_at (drop at l) 1 10) (omega (arith, f.len))
        ∙ ap (take (number_at (drop at l) 1 10)) (sym (drop-drop 2 at l)) in
        λ i. record { builtin = f.builtin i; text = t i }

    abbrev others : List ℕ
    others = entry_lines (left - 1) (drop (at + 2 + r.len) l)

    -- its line is written, or there is no room for it
    module _ (y o₀ : List ℕ) (used₀ : ℕ) (o : List ℕ) (used : ℕ) (lead : Leads y o₀ used₀ (entry_lines left (drop at l)) o used) where
      parted : Leads y o₀ used₀ (command_line here ++ others) o used
      parted =
          let turn : entry_lines left (drop at l) ≡ command_line here ++ others =
          lines-first left (drop at l) h
          ∙ ap₂ (λ (a c : List ℕ). a ++ c) (ap command_line (sym here-first)) (ap (entry_lines (left - 1)) next_place) in
          subst (λ (z : List ℕ). Leads y o₀ used₀ z o used) turn lead

      pub lines_next : (k : ℕ) (o₁ : List ℕ) → Placed (command_line here) o used k o₁ → Leads y o₀ used₀ others o₁ k
      lines_next = leads_more y o₀ used₀ o used (command_line here) others parted

      pub lines_full : length o < used + length (command_line here) → length o₀ < used₀ + length y
      lines_full = leads_full y o₀ used₀ o used (command_line here) others parted

pub lines_end : (left : ℕ) (bs y o₀ : List ℕ) (used₀ : ℕ) (o : List ℕ) (used : ℕ) → used ≤ length o → left ≤ 0 → Leads y o₀ used₀ (entry_lines left bs) o used → Placed y o₀ used₀ used o
lines_end left bs y o₀ used₀ o used room h lead =
    leads_last y o₀ used₀ o used room (subst (λ (z : List ℕ). Leads y o₀ used₀ z o used) (ap_at (λ i. entry_lines i bs) left 0 (omega arith)) lead)

-- ---- one line

module _ (builtin : Bool) (text : List ℕ) where
  pub builtin_line : builtin ≡ true → line_of (98 ∷ 117 ∷ 105 ∷ 108 ∷ 116 ∷ 105 ∷ 110 ∷ []) (escaped text) ≡ command_line (record { builtin = builtin; text = text })
  unfolding bytes
  builtin_line e = rw e refl

  pub program_line : builtin ≡ false → line_of (112 ∷ 114 ∷ 111 ∷ 103 ∷ 114 ∷ 97 ∷ 109 ∷ []) (escaped text) ≡ command_line (record { builtin = builtin; text = text })
  unfolding bytes
  program_line e = rw e refl

-- ---- a run list as it is made

-- a text that the head can tell the length of
abbrev pub Short : Command → Type 0
Short c = length c.text < 1024

module _ (c : Command) (s : Short c) (r : List ℕ) where
  builtin_read : flag_at (enc_command c ++ r) 0 ≡ c.builtin
  builtin_read =
      ap (λ (x : List ℕ). flag_at x 0) (append_assoc (packed (command_fields c)) c.text r)
      ∙ ap (λ (n : ℕ). eqb n 1) (read_packed [] ((10, length c.text) ∷ (5, 0) ∷ []) 1 2 (bit c.builtin) (c.text ++ r) refl (bit_small c.builtin))
      ∙ eqb-bit c.builtin

  length_read : number_at (enc_command c ++ r) 1 10 ≡ length c.text
  length_read =
      ap (λ (x : List ℕ). number_at x 1 10) (append_assoc (packed (command_fields c)) c.text r)
      ∙ read_packed ((1, bit c.builtin) ∷ []) ((5, 0) ∷ []) 10 2 (length c.text) (c.text ++ r) refl s

  head_length : length (packed (command_fields c)) ≡ 2
  head_length = length-packed (command_fields c) 2 refl

  first_command : first (enc_command c ++ r) ≡ c
  first_command =
      let t : (first (enc_command c ++ r)).text ≡ c.text =
      ap₂ (λ (n : ℕ) (x : List ℕ). take n x) length_read
      (ap (drop 2) (append_assoc (packed (command_fields c)) c.text r) ∙ drop_at (packed (command_fields c)) (c.text ++ r) 2 head_length)
      ∙ take_at c.text r (length c.text) refl in
      λ i. record { builtin = builtin_read i; text = t i }

  size_command : size (enc_command c ++ r) ≡ length (enc_command c)
  size_command = omega (arith, length_read, head_length, length-append (packed (command_fields c)) c.text)

  behind_command : drop (size (enc_command c ++ r)) (enc_command c ++ r) ≡ r
  behind_command = drop_at (enc_command c) r (size (enc_command c ++ r)) (sym size_command)

  pub entries_one : (n : ℕ) → Entries n r → Entries (suc n) (enc_command c ++ r)
  entries_one n w = (omega (arith, size_command, length-append (enc_command c) r), subst (Entries n) (sym behind_command) w)

  pub lines-one : (n : ℕ) → entry_lines (suc n) (enc_command c ++ r) ≡ command_line c ++ entry_lines n r
  lines-one n = ap₂ (λ (a b : List ℕ). a ++ b) (ap command_line first_command) (ap (entry_lines n) behind_command)

entries_commands : (cs : List Command) → All Short cs → (r : List ℕ) → Entries (length cs) (cat enc_command cs ++ r)
entries_commands [] a r = tt
entries_commands (c ∷ cs) (s, a) r =
    subst (Entries (suc (length cs))) (sym (append_assoc (enc_command c) (cat enc_command cs) r))
    (entries_one c s (cat enc_command cs ++ r) (length cs) (entries_commands cs a r))

lines-commands : (cs : List Command) → All Short cs → (r : List ℕ) → entry_lines (length cs) (cat enc_command cs ++ r) ≡ cat command_line cs
lines-commands [] a r = refl
lines-commands (c ∷ cs) (s, a) r =
    ap (entry_lines (suc (length cs))) (append_assoc (enc_command c) (cat enc_command cs) r)
    ∙ lines-one c s (cat enc_command cs ++ r) (length cs)
    ∙ ap (λ (x : List ℕ). command_line c ++ x) (lines-commands cs a r)

-- with its head in front
module _ (cs : List Command) (few : length cs < 32) (a : All Short cs) (r : List ℕ) where
  list_front : run_list cs ++ r ≡ packed (list_fields cs) ++ (cat enc_command cs ++ r)
  unfolding run_list
  list_front = append_assoc (packed (list_fields cs)) (cat enc_command cs) r

  list_head : length (packed (list_fields cs)) ≡ 1
  list_head = length-packed (list_fields cs) 1 refl

  list_count : number_at (run_list cs ++ r) 0 5 ≡ length cs
  list_count = ap (λ (x : List ℕ). number_at x 0 5) list_front ∙ read_packed [] ((3, 0) ∷ []) 5 1 (length cs) (cat enc_command cs ++ r) refl few

  list_entries : drop 1 (run_list cs ++ r) ≡ cat enc_command cs ++ r
  list_entries = ap (drop 1) list_front ∙ drop_at (packed (list_fields cs)) (cat enc_command cs ++ r) 1 list_head

  pub list_stands : Stands (run_list cs ++ r)
  list_stands = (
    omega (arith, ap length list_front, length-append (packed (list_fields cs)) (cat enc_command cs ++ r), list_head),
    subst (λ (n : ℕ). Entries n (drop 1 (run_list cs ++ r))) (sym list_count) (subst (Entries (length cs)) (sym list_entries) (entries_commands cs a r)),
  )

  pub list_lines_lem : entry_lines (number_at (run_list cs ++ r) 0 5) (drop 1 (run_list cs ++ r)) ≡ cat command_line cs
  list_lines_lem = ap₂ entry_lines list_count list_entries ∙ lines-commands cs a r
