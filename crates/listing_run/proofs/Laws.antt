-- What the answers of the operations say of a listing.
-- Assumes nothing.
use Prim.Native.Nat.{ℕ, ◌+◌, ◌-◌, ◌≤◌}
use mathlib.Core.Path.{◌≡◌, refl, sym, ap, ◌∙◌, subst}
use mathlib.Core.List.{List, [], ◌++◌, append_assoc}
use mathlib.Core.Bool.{true}
use Rattle.std.specs.Prelude.{Option, None, Some}
use native.Mathlib.Omega.{arith}
use borrow.Author.Tests.{leb-true}
use lib.Dec.{leb}
use lib.ListN.{length, take, replicate}
use lib.Seq.{take_at}
use Rattle.lists.specs.Lists.{cat}
use Rattle.lists.specs.Bytes.{Bytes}
use Rattle.lists.specs.Checked.{Checked, refused, ok, ◌>>=◌, ◌>>◌, require, found, Holds, Placed, line, on_line}
use Rattle.lists.specs.Refusal.{Refusal, number, target_short, device_bad, outcome_bad, sheet_bad}
use Rattle.lists.specs.Sizes.{fullest_outcome, fullest_run_list}
use Rattle.lists.specs.Quoted.{bytes}
use Rattle.lists.proofs.Lists.{All-map, all_each}
use Rattle.lists.proofs.Checked.{holds-bind, holds_self, holds-found, holds-map, holds_at}
use Rattle.text.specs.Lines.{lines}
use Rattle.text.specs.Reading.{read_text}
use Rattle.text.specs.Rules.{rules_of}
use Rattle.text.specs.Running.{Halt, Ran, next, run_from}
use Rattle.text.specs.Run as runs
use Rattle.text.proofs.Runs.{refusal-number}
use Rattle.text.proofs.Texts.{read}
use Rattle.text.proofs.Sound as sound
use Rattle.text.proofs.Sound.{run_sound, lines_read}
use Rattle.rules.specs.Pair.{Rule}
use Rattle.rules.specs.Reading.{reader}
use Rattle.device.specs.Device as D
use Rattle.device.specs.Device.{Device, chain}
use Rattle.outcome.specs.State as O
use Rattle.outcome.specs.State.{State, encode}
use Rattle.outcome.proofs.RoundTrip.{there}
use Rattle.outcome.proofs.Fits.{fits}
use Rattle.outcome.proofs.Fresh.{fresh_good}
use Rattle.outcome_target.specs.Layout.{layout_of}
use Rattle.outcome_target.specs.declared.Layout.{Layout}
use Rattle.outcome_check.specs.Check.{checked_of}
use Rattle.sheet.specs.Sheet as Sheets
use Rattle.sheet.specs.Sheet.{Sheet}
use Rattle.sheet.proofs.RoundTrip as sheets
use Rattle.engine.specs.Operations as operations
use Rattle.engine.specs.Operations.{engine, run_checked, decode_for, Command, commands, run_list, close_checked, fresh_checked}
use Rattle.engine.specs.Listing.{command_line, listing_of, fresh_or, listed, printed, listing_from, listing}
use Rattle.engine.proofs.Laws.{engine-laws, engine_good}
use Rattle.engine.proofs.Sizes as sizes
use Rattle.engine.proofs.Sizes.{short_text, commands-made}
use Rattle.answers.specs.Answers.{answered}
use Rattle.answers.specs.declared.Given.{Given}
use Rattle.listing_lines.specs.Lines.{refusal_line}
use Rattle.listing_lines.proofs.Laws.{refusal-printed}
use Rattle.listing_record.specs.Lines.{record_lines}
use Rattle.listing_run.specs.Listed.{Made, LeftBy, closed_listing}

-- ---- numbers
no_number : (f : Refusal) → number f ≡ 0 → ⊥
no_number f e = omega (arith, (refusal-number f).1)

-- ---- the run

module _ (text dev out sheet : List ℕ) where
  abbrev halted : Ran State
  halted = run_checked text dev out sheet fullest_outcome

  -- a refused run is all that is listed
  ran-refused : (n : ℕ) (f : Refusal) → halted ≡ refused (line n f) → listing_from text dev out sheet ≡ refusal_line (number f) n
  unfolding listing_from listed
  ran-refused n f e = rw e (sym (refusal-printed n f))

  ran-ok : (h : Halt State) (d : Device) → halted ≡ ok h → D.decode dev ≡ Some d → listing_from text dev out sheet ≡ printed (closed_listing h.visited h.tried d h.state)
  unfolding listing_from listed
  ran-ok h d e f = rw (e, f)

  -- the state that a run leaves is sound beside its device
  abbrev pub Ends : Halt State → Type 0
  Ends h = (d : Device) × (D.decode dev ≡ Some d) × O.Good (length (chain d)) h.state

  rules-end : Bytes out → (rs : List (Placed Rule)) → read_text reader text ≡ ok rs → (d : Device) → D.decode dev ≡ Some d
      → (s : State) → decode_for d out ≡ Some s → (a : Sheet) → Sheets.Good a → Holds Ends (run_from (engine a) d next s rs)
  unfolding rules_of
  rules-end by rs e d f s g a ag =
      let t = read (engine a) text rs e in
      rw t.same
      (holds-map (sound.Sound (engine a) (engine-laws a ag) d) Ends (run_from (engine a) d next s (rules_of reader text))
      (run_sound (engine a) (engine-laws a ag) d (rules_of reader text) next s tt t.parts.settled (lines_read (engine a) (lines text)) ((engine-laws a ag).starts by f g))
      (λ h w. (d, f, engine_good a ag d h.state w.good)))

  pub run_ends : Bytes out → Bytes sheet → Holds Ends halted
  unfolding run_checked
  run_ends by bs =
      holds-bind (λ (rs : List (Placed Rule)). read_text reader text ≡ ok rs) Ends (read_text reader text) _ (holds_self (read_text reader text)) λ rs e.
      holds-bind (λ (d : Device). D.decode dev ≡ Some d) Ends (found (D.decode dev) (line 0 device_bad)) _ (holds-found (D.decode dev) (line 0 device_bad)) λ d f.
      holds-bind (λ (s : State). decode_for d out ≡ Some s) Ends (found (decode_for d out) (line 0 outcome_bad)) _ (holds-found (decode_for d out) (line 0 outcome_bad)) λ s g.
      holds-bind (λ (a : Sheet). Sheets.decode sheet ≡ Some a) Ends (found (Sheets.decode sheet) (line 0 sheet_bad)) _ (holds-found (Sheets.decode sheet) (line 0 sheet_bad)) λ a k.
      rules-end by rs e d f s g a (sheets.back sheet a bs k).good

  -- by what the run gives back
  module _ (g : Given) (bs : List ℕ) (e : answered g bs ≡ operations.run text dev out sheet fullest_outcome) where
    pub run-refused : (g.number ≡ 0 → ⊥) → refusal_line g.number g.line ≡ listing_from text dev out sheet
    unfolding operations.run operations.ran
    run-refused z = go halted refl e
      where
        go : (c : Ran State) → halted ≡ c → answered g bs ≡ operations.ran fullest_outcome c → refusal_line g.number g.line ≡ listing_from text dev out sheet
        go (refused (line n f)) q a = rw (ap (λ (x : runs.Answer). x.number) a, ap (λ (x : runs.Answer). x.line) a) (sym (ran-refused n f q))
        go (ok h) q a = absurd (z (ap (λ (x : runs.Answer). x.number) a))

    -- what is left for the close: the device and the state, and what is then listed
    abbrev Leaves : Type 0
    Leaves = (d : Device) × (s : State) × LeftBy dev bs g.used d s × (listing_from text dev out sheet ≡ printed (closed_listing g.visited g.tried d s))

    pub run-left : Bytes out → Bytes sheet → length bs ≡ fullest_outcome → g.number ≡ 0 → Leaves
    unfolding operations.run operations.ran
    run-left by ss len z = go halted refl e
      where
        go : (c : Ran State) → halted ≡ c → answered g bs ≡ operations.ran fullest_outcome c → Leaves
        go (refused (line n f)) q a = absurd (no_number f (sym (ap (λ (x : runs.Answer). x.number) a) ∙ z))
        go (ok h) q a =
            let (d, f, w) = holds_at Ends q (run_ends by ss) in
            let u : g.used ≡ length (encode h.state) = ap (λ (x : runs.Answer). x.used) a in
            let b : bs ≡ encode h.state ++ replicate (length bs - length (encode h.state)) 0 =
            ap (λ (x : runs.Answer). x.bytes) a ∙ ap (λ (k : ℕ). encode h.state ++ replicate (k - length (encode h.state)) 0) (sym len) in (
              d,
              h.state,
              record { device = f; held = record { good = w; bytes = b; layout = refl; room = omega (arith, len) }; end = u },
              ran-ok h d q f ∙ ap (λ (x : runs.Answer). printed (closed_listing x.visited x.tried d h.state)) (sym a),
            )

-- ---- the close

module _ (dev t : List ℕ) (used : ℕ) (d : Device) (s : State) (w : LeftBy dev t used d s) where
  abbrev made : Checked Refusal (List Command)
  made = commands d s.properties s.output s.runs

  -- the record stands at the front of the target
  pub left_record : take used t ≡ encode s
  left_record =
      ap (take used) w.held.bytes ∙ take_at (encode s) (replicate (length t - length (encode s)) 0) used (sym w.end)

  pub left-within : used ≤ length t
  left-within = omega (arith, w.end, fits (length (chain d)) s w.held.good, w.held.room)

  pub left_read : O.decode (length (chain d)) (take used t) ≡ Some s
  left_read = ap (O.decode (length (chain d))) left_record ∙ there (length (chain d)) s w.held.good

  closes : close_checked dev (take used t) fullest_run_list ≡ (on_line 0 made >>= λ cs. ok (run_list cs))
  unfolding close_checked decode_for
  closes = rw (w.device, left_read)

  module _ (g : Given) (list : List ℕ) (e : answered g list ≡ operations.close dev (take used t) fullest_run_list) where
    close_answer : answered g list ≡ operations.given fullest_run_list (on_line 0 made >>= λ cs. ok (run_list cs))
    unfolding operations.close
    close_answer = e ∙ ap (operations.given fullest_run_list) closes

    pub close-refused : (visited tried : ℕ) → (g.number ≡ 0 → ⊥) → refusal_line g.number g.line ≡ printed (closed_listing visited tried d s)
    close-refused visited tried z = go made close_answer
      where
        go : (c : Checked Refusal (List Command)) → answered g list ≡ operations.given fullest_run_list (on_line 0 c >>= λ cs. ok (run_list cs))
            → refusal_line g.number g.line ≡ printed (on_line 0 c >>= λ cs. ok (listing_of visited tried s cs))
        go (refused f) a = rw (ap (λ (x : runs.Answer). x.number) a, ap (λ (x : runs.Answer). x.line) a) (refusal-printed 0 f)
        go (ok cs) a = absurd (z (ap (λ (x : runs.Answer). x.number) a))

    pub close-made : g.number ≡ 0 → (cs : List Command) × (made ≡ ok cs) × Made list cs
    close-made z = go made refl close_answer
      where
        go : (c : Checked Refusal (List Command)) → made ≡ c → answered g list ≡ operations.given fullest_run_list (on_line 0 c >>= λ cs. ok (run_list cs))
            → (cs : List Command) × (made ≡ ok cs) × Made list cs
        go (refused f) q a = absurd (no_number f (sym (ap (λ (x : runs.Answer). x.number) a) ∙ z))
        go (ok cs) q a =
            let m = holds_at (sizes.Made (length s.runs)) q (commands-made d s.properties s.output s.runs) in (
              cs,
              q,
              record {
                rest = replicate (fullest_run_list - length (run_list cs)) 0;
                bytes = ap (λ (x : runs.Answer). x.bytes) a;
                few = omega (arith, m.count, w.held.good.runs.few);
                short = All-map (λ (c : Command). short_text c ≡ true) _ (λ c k. omega (arith, leb-true (length c.text) 512 k)) cs (all_each short_text cs m.each);
              },
            )

  pub made-listing : (visited tried : ℕ) (cs : List Command) → made ≡ ok cs → listing_of visited tried s cs ≡ printed (closed_listing visited tried d s)
  unfolding printed
  made-listing visited tried cs e = rw e refl

-- ---- the check of the record

module _ (n len : ℕ) (l : List ℕ) (s : State) (e : len ≡ n) (f : O.decode n l ≡ Some s) where
  pub checked_layout : (lay : Layout) → Some lay ≡ checked_of (O.decode len l) → lay ≡ layout_of s
  checked_layout lay g =
      let q : Some lay ≡ Some (layout_of s) = g ∙ ap checked_of (ap (λ (k : ℕ). O.decode k l) e ∙ f) in
      cc

  pub checked_sound : None ≡ checked_of (O.decode len l) → ⊥
  checked_sound g =
      let q : None ≡ Some (layout_of s) = g ∙ ap checked_of (ap (λ (k : ℕ). O.decode k l) e ∙ f) in
      cc

-- ---- the fresh record

module _ (dev : List ℕ) (g : Given) (bs : List ℕ) (e : answered g bs ≡ operations.fresh dev fullest_outcome) where
  pub fresh_record : take g.used bs ≡ fresh_or (D.decode dev)
  unfolding operations.fresh fresh_checked
  fresh_record = go (D.decode dev) e
    where
      go : (o : Option Device) → answered g bs ≡ operations.given fullest_outcome (require (leb fullest_outcome fullest_outcome) (line 0 target_short) >> (found o (line 0 device_bad) >>= λ d. ok (encode (O.fresh d))))
          → take g.used bs ≡ fresh_or o
      go None a = rw (ap (λ (x : runs.Answer). x.used) a) refl
      go (Some d) a =
          rw (ap (λ (x : runs.Answer). x.used) a, ap (λ (x : runs.Answer). x.bytes) a)
          (take_at (encode (O.fresh d)) (replicate (fullest_outcome - length (encode (O.fresh d))) 0) (length (encode (O.fresh d))) refl)

  pub fresh-within : g.used ≤ fullest_outcome
  unfolding operations.fresh fresh_checked
  fresh-within = go (D.decode dev) refl e
    where
      go : (o : Option Device) → D.decode dev ≡ o → answered g bs ≡ operations.given fullest_outcome (require (leb fullest_outcome fullest_outcome) (line 0 target_short) >> (found o (line 0 device_bad) >>= λ d. ok (encode (O.fresh d))))
          → g.used ≤ fullest_outcome
      go None q a = omega (arith, ap (λ (x : runs.Answer). x.used) a)
      go (Some d) q a = omega (arith, ap (λ (x : runs.Answer). x.used) a, fits (length (chain d)) (O.fresh d) (fresh_good dev d q))
