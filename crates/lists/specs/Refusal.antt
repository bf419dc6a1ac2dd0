-- Document 01, Numbers given back: the refusals, in the order of its table, and their numbers; those of document 02 name their Item.
-- Assumes nothing.
use Rattle.std.specs.Prelude.{ℕ}

pub data Refusal : Type 0 where
  target_short text_long : Refusal
  line_bad key_bad argument_bad operator_bad value_bad content_bad pair_extra comma_missing rule_extra label_missing line_open file_twice : Refusal
  device_bad outcome_bad too_new sheet_bad set_bad : Refusal
  substitution_long link_bad list_full owner_bad mode_bad command_missing mode_shared : Refusal

abbrev pub number : Refusal → ℕ
-- less room than an operation may need: 18,125 bytes for an outcome record (edition 1: 17,611), 8,225 for a run list, 32,768 for a text, 134,144 for
-- the holders of links; 32,768 numbers for strikes; of many devices the room of a record and 8 numbers for each
number target_short = 1
-- text over 32,768 bytes
number text_long = 2
-- line over 1,024 bytes or holding NUL
number line_bad = 10
-- key unknown or missing
number key_bad = 11
-- an argument that should be there and is not, is faulty, or should not be there
number argument_bad = 12
-- operator missing or not that key's
number operator_bad = 13
-- a value without its marks, with an escape that there is not, or of more than 256 bytes
number value_bad = 14
-- content fault
number content_bad = 15
-- 33rd pair, second LABEL or second GOTO
number pair_extra = 16
-- something else than a comma behind a pair
number comma_missing = 17
-- 513th rule
number rule_extra = 18
-- GOTO without a later LABEL
number label_missing = 19
-- document 02, Item 10: a join that nothing follows; checked before the line's 10
number line_open = 20
-- document 02, Item 11: two files of equal name and rank
number file_twice = 21
-- device record faulty or over 16,384 bytes
number device_bad = 3
-- outcome record faulty
number outcome_bad = 4
-- document 02, Item 5: output or watch set where edition 1 is wanted
number too_new = 5
-- document 02, Item 6: answer sheet faulty
number sheet_bad = 6
-- document 02, Items 7, 11, 14: bytes that are no set
number set_bad = 7
-- substituted text over 512 bytes
number substitution_long = 30
-- a link of more than 128 bytes, or that a path under `/dev` cannot have: absolute, or an empty, `.` or `..` component
number link_bad = 31
-- list or properties full
number list_full = 32
-- owner or group faulty
number owner_bad = 33
-- mode faulty
number mode_bad = 34
-- document 02, Item 6: command that is not on the answer sheet
number command_missing = 35
-- document 02, Item 8: mode that lets others write
number mode_shared = 36
