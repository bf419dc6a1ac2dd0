-- The writer check by check, and what a table that was read gives it.
-- Assumes nothing.
use Prim.Native.Nat.{ℕ, ◌+◌, ◌-◌, ◌*◌, ◌≤◌, ◌<◌}
use mathlib.Core.Path.{◌≡◌, ap, ◌∙◌}
use mathlib.Core.List.{List, [], ◌++◌, append-nil}
use native.Mathlib.Omega.{arith}
use borrow.Author.Tests.{le-leb, lt-leb}
use borrow.Rule.Slice.PartMut.{put_mid}
use lib.ListN.{length, get_or, take, drop, replicate, length-drop, drop_of_length-le}
use lib.Seq.{take_at}
use Rattle.lists.specs.Checked.{refused, ok, Placed, line}
use Rattle.lists.specs.Refusal.{Refusal, target_short, text_long}
use Rattle.lists.specs.Sizes.{most_rules, most_text}
use Rattle.lists.proofs.Moves.{ap_at}
use Rattle.splice.proofs.Laws.{length-stored}
use Rattle.text.specs.Reading.{read_text}
use Rattle.text.specs.Run.{refusal, acceptance}
use Rattle.text.proofs.Texts.{reading_of, read}
use Rattle.rules.specs.Pair.{Rule}
use Rattle.rules.specs.Reading.{reader}
use Rattle.insertion.specs.Append as insertion
use Rattle.table.proofs.Rules.{segment}
use Rattle.reader.specs.Texts.{Read}
use Rattle.reader.specs.declared.Counts.{Counts}
use Rattle.writing.specs.Writing.{written, write_checked, write}
use Rattle.writing.proofs.Texts.{wanted}
use Rattle.rule_writing.specs.Tables.{RulesIn}

-- ---- the checks

module _ (t : List ℕ) (room : ℕ) where
  pub write_short : room < most_text → write t room ≡ refusal room (line 0 target_short)
  unfolding write write_checked
  write_short h = rw (lt-leb most_text room h)

  module _ (h : most_text ≤ room) where
    pub write-text : (f : Placed Refusal) → read_text reader t ≡ refused f → write t room ≡ refusal room f
    unfolding write write_checked
    write-text f e = rw (le-leb most_text room h, e)

    module _ (rs : List (Placed Rule)) (e : read_text reader t ≡ ok rs) where
      pub write-long : most_text < length (written rs) → write t room ≡ refusal room (line 0 text_long)
      unfolding write write_checked
      write-long k = rw (le-leb most_text room h, e, lt-leb (length (written rs)) most_text k)

      pub write-made : length (written rs) ≤ most_text → write t room ≡ acceptance room 0 0 (written rs)
      unfolding write write_checked
      write-made k = rw (le-leb most_text room h, e, le-leb (length (written rs)) most_text k)

-- ---- a table that was read

-- no text is written longer than a full one and a newline
pub written_few : (t : List ℕ) (rs : List (Placed Rule)) → read_text reader t ≡ ok rs → length (written rs) ≤ most_text + 1
written_few t rs e = omega (arith, wanted.no_longer t rs e, (read (reading_of reader) t rs e).parts.short)

pub rules_in_lem : (x v r t l js : List ℕ) (c : Counts) → Read x v r t l js c → most_rules * 4 ≤ length t → RulesIn v r t c.rules
rules_in_lem x v r t l js c w h = record {
  room = omega (arith, w.few);
  ordered = λ i k. (w.rules.rules i k).ordered;
  rows = λ i k. segment v r c.rows c.used (get_or t (i * 4 + 2) 0) w.rules.rows (w.rules.rules i k).to;
}

-- ---- the target

-- a text at its start, and all behind it cleared
pub cleared_behind : (x l : List ℕ) (k : ℕ) (l' z : List ℕ) (n : ℕ) → insertion.Placed x l 0 k l' → z ≡ replicate n 0 → n ≡ length l' - k
    → put_mid k (length l' - k) l' z ≡ x ++ replicate (length l - length x) 0
cleared_behind x l k l' z n p e f =
    let s : length l' ≡ length l = ap length p.bytes ∙ length-stored l 0 x (omega (arith, p.end, p.room)) in
    let t : take k l' ≡ x = ap (take k) p.bytes ∙ take_at x (drop (0 + length x) l) k (omega (arith, p.end)) in
    let d : drop (length l' - k) (drop k l') ≡ [] = drop_of_length-le (drop k l') {i = length l' - k} (omega (arith, length-drop k l')) in
    let r : z ≡ replicate (length l - length x) 0 = e ∙ ap_at (λ m. replicate m 0) n (length l - length x) (omega (arith, f, s, p.end)) in
    ap (λ (y : List ℕ). y ++ (z ++ drop (length l' - k) (drop k l'))) t
    ∙ ap (λ (y : List ℕ). x ++ (z ++ y)) d
    ∙ ap (λ (y : List ℕ). x ++ y) (append-nil z ∙ r)
