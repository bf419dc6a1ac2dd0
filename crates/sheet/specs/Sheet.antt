-- Document 02, Item 6: the answer sheet, its layout, and the sheets that are sound.
-- Assumes nothing.
use Rattle.std.specs.Prelude.{ℕ, ◌+◌, ◌≤◌, ◌≡◌, Bool, true, false, ◌&&◌, List, [], ◌∷◌, ◌++◌, map, length, take, drop, leb, eqb}
use Rattle.std.specs.Prelude.{Option, Some, None}
use Rattle.lists.specs.Lists.{pick, cat, all}
use Rattle.lists.specs.Bytes.{same_bytes, clean, distinct, ok_text}
use Rattle.lists.specs.Sizes.{most_sheet, most_replies, most_command, most_output}
use Rattle.bits.specs.Bits.{number_at}
use Rattle.bits.specs.Fields.{Field, packed, bit, flag_at}
use Rattle.entries.specs.Parse.{Parse, got, bad, keep, bind, many}
use Rattle.entries.specs.Entry.{exactly}

-- what a program said: its command, whether it succeeded, its output
pub record Reply : Type 0 where
  pub success : Bool
  pub command : List ℕ
  pub output : List ℕ

abbrev pub Sheet : Type 0
Sheet = List Reply

-- a command of 1 to 512 bytes, an output of at most 512; no NUL
abbrev pub ok_reply : Reply → Bool
ok_reply r = ok_text most_command r.command && (leb (length r.output) most_output && clean r.output)

-- ---- the layout

-- the head of an entry: success 1, command length 10, output length 10, unused 3
abbrev pub reply_fields : Reply → List Field
reply_fields r = (1, bit r.success) ∷ (10, length r.command) ∷ (10, length r.output) ∷ (3, 0) ∷ []

-- its head, the command, the output
abbrev pub enc_reply : Reply → List ℕ
enc_reply r = packed (reply_fields r) ++ (r.command ++ r.output)

-- the number of entries in a byte, then the entries
unfoldable pub encode : Sheet → List ℕ
encode rs = length rs ∷ cat enc_reply rs

-- ---- reading

-- the entry of a head whose texts stand first in the bytes behind it
abbrev pub reply_at : List ℕ → List ℕ → Reply
reply_at head bs =
    record {
      success = flag_at head 0;
      command = take (number_at head 1 10) bs;
      output = take (number_at head 11 10) (drop (number_at head 1 10) bs);
    }

-- if it is there, sound, and the unused bits are zero
abbrev pub reply_on : List ℕ → List ℕ → Parse Reply
reply_on head bs =
    keep
    (eqb (number_at head 21 3) 0 && (leb (number_at head 1 10 + number_at head 11 10) (length bs) && ok_reply (reply_at head bs)))
    (reply_at head bs)
    (drop (number_at head 1 10 + number_at head 11 10) bs)

abbrev pub one_reply : List ℕ → Parse Reply
one_reply bs = bind (exactly 3 bs) reply_on

abbrev pub commands_of : Sheet → List (List ℕ)
commands_of rs = map (λ (r : Reply). r.command) rs

-- what holds of the whole: at most 64 entries, no command twice
abbrev pub whole : Sheet → Bool
whole rs = leb (length rs) most_replies && distinct (commands_of rs)

-- nothing after the end
abbrev pub ended : Parse Sheet → Option Sheet
ended bad = None
ended (got rs (b ∷ bs)) = None
ended (got rs []) = elim (whole rs) [ true ↦ Some rs | false ↦ None ]

-- the sound sheets, and no others: to 32,768 bytes (refusal 6)
unfoldable pub decode : List ℕ → Option Sheet
decode [] = None
decode (k ∷ bs) = elim (leb (length (k ∷ bs)) most_sheet) [ true ↦ ended (many one_reply k bs) | false ↦ None ]

-- a sheet as Item 6 allows it
pub record Good (rs : Sheet) : Type 0 where
  pub few : length rs ≤ most_replies
  pub each : all ok_reply rs ≡ true
  pub apart : distinct (commands_of rs) ≡ true

-- the bytes of its texts
abbrev pub texts : Sheet → ℕ
texts [] = 0
texts (r ∷ rs) = length r.command + length r.output + texts rs

-- ---- asking

-- the entry of a command
unfoldable pub reply_to : List ℕ → Sheet → Option Reply
reply_to c [] = None
reply_to c (r ∷ rs) = pick (same_bytes r.command c) (Some r) (reply_to c rs)
