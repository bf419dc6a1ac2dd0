-- Document 01, Packed records and Sizes: the outcome as a value, its record, and the records that are sound.
-- Assumes nothing.
use Rattle.std.specs.Prelude.{ℕ, ◌<◌, ◌≤◌, ◌≡◌, Bool, true, false, ◌&&◌, ◌||◌, not, List, [], ◌∷◌, ◌++◌, length, take, drop, leb, eqb}
use Rattle.std.specs.Prelude.{Option, Some, None}
use Rattle.lists.specs.Lists.{pick, cat, all}
use Rattle.lists.specs.Bytes.{distinct, ok_text}
use Rattle.bits.specs.Bits.{number_at}
use Rattle.bits.specs.Fields.{Field, packed, bit, flag_at}
use Rattle.entries.specs.Parse.{Parse, got, bad, keep, bind, many}
use Rattle.entries.specs.Entry.{exactly, enc_text, one_text, Property, ok_prop, enc_prop, one_prop, keys}
use Rattle.device.specs.Device.{Device}
use Rattle.lists.specs.Sizes.{most_chain, most_links, most_properties, most_tags, most_tag, most_runs, most_value}
use Rattle.template.specs.Template.{well_formed}
use Rattle.outcome.specs.Head.{Closed, Head, header, head_of}
use Rattle.outcome.specs.Content.{ok_link, ok_owner, others_write, ok_output}

-- a program to run later: its type, the place of the matched device (0 is none), its template
pub record Run : Type 0 where
  pub builtin : Bool
  pub place : ℕ
  pub template : List ℕ

-- an owner or a group of no bytes is unset; the priority is its 32 bits in two's complement; document 02, Item 5: the output that a program
-- left last, and whether the device is watched (0 unset, 1 watch, 2 nowatch)
pub record State : Type 0 where
  pub closed : Closed
  pub owner : List ℕ
  pub group : List ℕ
  pub mode : Option ℕ
  pub priority : ℕ
  pub output : List ℕ
  pub watch : ℕ
  pub links : List (List ℕ)
  pub properties : List Property
  pub tags : List (List ℕ)
  pub runs : List Run

-- ---- mode as numbers of the header

abbrev pub mode_set : Option ℕ → ℕ
mode_set None = 0
mode_set (Some m) = 1

abbrev pub mode_bits : Option ℕ → ℕ
mode_bits None = 0
mode_bits (Some m) = m

abbrev pub mode_of : ℕ → ℕ → Option ℕ
mode_of set m = pick (eqb set 1) (Some m) None

-- ---- a run

-- 1 to 256 bytes of a well-formed template, a place within a chain of n devices
abbrev pub ok_run : ℕ → Run → Bool
ok_run n r = leb r.place most_chain && (leb r.place n && (ok_text most_value r.template && well_formed r.template))

-- the head of a run: builtin 1, place 5, length 9, unused 1
abbrev pub run_fields : Run → List Field
run_fields r = (1, bit r.builtin) ∷ (5, r.place) ∷ (9, length r.template) ∷ (1, 0) ∷ []

-- its head, then the template
abbrev pub enc_run : Run → List ℕ
enc_run r = packed (run_fields r) ++ r.template

-- the run of a head whose template stands first in the bytes behind it
abbrev pub run_at : List ℕ → List ℕ → Run
run_at head bs = record { builtin = flag_at head 0; place = number_at head 1 5; template = take (number_at head 6 9) bs }

-- if it is there, sound, and the unused bit is zero
abbrev pub run_on : ℕ → List ℕ → List ℕ → Parse Run
run_on n head bs =
    keep
    (eqb (number_at head 15 1) 0 && (leb (number_at head 6 9) (length bs) && ok_run n (run_at head bs)))
    (run_at head bs)
    (drop (number_at head 6 9) bs)

abbrev pub one_run : ℕ → List ℕ → Parse Run
one_run n bs = bind (exactly 2 bs) (run_on n)

-- ---- the record

abbrev pub head_for : State → Head
head_for s =
    record {
      edition = 2;
      closed = s.closed;
      owner = length s.owner;
      group = length s.group;
      mode_set = mode_set s.mode;
      mode = mode_bits s.mode;
      priority = s.priority;
      links = length s.links;
      properties = length s.properties;
      tags = length s.tags;
      runs = length s.runs;
      output = length s.output;
      watch = s.watch;
      unused = 0;
    }

-- owner, group, links, properties, tags, runs
abbrev pub body : State → List ℕ
body s =
    s.owner
    ++ (s.group ++ (cat enc_text s.links ++ (cat enc_prop s.properties ++ (cat enc_text s.tags ++ cat enc_run s.runs))))

-- Item 5: the output right behind the header
unfoldable pub encode : State → List ℕ
encode s = header (head_for s) ++ (s.output ++ body s)

-- what the header must say: edition 2, watch as above, unused bits zero (Item 5), no mode without its mark, none that lets others write (Item 8), no more than there may be of each
abbrev pub ok_head : Head → Bool
ok_head h =
    eqb h.edition 2
    && (leb h.watch 2
    && (eqb h.unused 0
    && ((eqb h.mode_set 1 || eqb h.mode 0)
    && (not (others_write h.mode)
    && (leb h.links most_links && (leb h.properties most_properties && (leb h.tags most_tags && leb h.runs most_runs)))))))

abbrev pub ok_tag : List ℕ → Bool
ok_tag x = ok_text most_tag x

-- no entry twice; equal runs are fine
abbrev pub apart : State → Bool
apart s = distinct s.links && (distinct (keys s.properties) && distinct s.tags)

-- a mode of 12 bits that does not let others write (Item 8)
pub record ModeBits (m : ℕ) : Type 0 where
  pub small : m < 4096
  pub kept : not (others_write m) ≡ true

abbrev pub OkModeBits : Option ℕ → Type 0
OkModeBits None = Unit {0}
OkModeBits (Some m) = ModeBits m

-- links or tags that may stand in a record: not too many, each sound, none twice
pub record Entries (most : ℕ) (ok : List ℕ → Bool) (xs : List (List ℕ)) : Type 0 where
  pub few : length xs ≤ most
  pub each : all ok xs ≡ true
  pub apart : distinct xs ≡ true

pub record Properties (ps : List Property) : Type 0 where
  pub few : length ps ≤ most_properties
  pub each : all ok_prop ps ≡ true
  pub apart : distinct (keys ps) ≡ true

pub record Runs (n : ℕ) (rs : List Run) : Type 0 where
  pub few : length rs ≤ most_runs
  pub each : all (ok_run n) rs ≡ true

-- a state that may stand in a record beside a chain of n devices
pub record Good (n : ℕ) (s : State) : Type 0 where
  pub owner : ok_owner s.owner ≡ true
  pub group : ok_owner s.group ≡ true
  pub mode : OkModeBits s.mode
  pub priority : s.priority < 4294967296
  pub output : ok_output s.output ≡ true
  pub watch : s.watch ≤ 2
  pub links : Entries most_links ok_link s.links
  pub properties : Properties s.properties
  pub tags : Entries most_tags ok_tag s.tags
  pub runs : Runs n s.runs

abbrev pub read_head : List ℕ → Parse Head
read_head bs = bind (exactly 13 bs) (λ head r. keep (ok_head (head_of head)) (head_of head) r)

abbrev pub state_of : Head → List ℕ → List ℕ → List ℕ → List (List ℕ) → List Property → List (List ℕ) → List Run → State
state_of h x o g ls ps ts rs =
    record {
      closed = h.closed;
      owner = o;
      group = g;
      mode = mode_of h.mode_set h.mode;
      priority = h.priority;
      output = x;
      watch = h.watch;
      links = ls;
      properties = ps;
      tags = ts;
      runs = rs;
    }

-- a text of k bytes, if it passes the test: output, owner, group
abbrev pub one_sized : (List ℕ → Bool) → ℕ → List ℕ → Parse (List ℕ)
one_sized ok k bs = keep (leb k (length bs) && ok (take k bs)) (take k bs) (drop k bs)

-- the parts, one after another, from the last; n is the chain's length
abbrev pub runs_on : ℕ → Head → List ℕ → List ℕ → List ℕ → List (List ℕ) → List Property → List (List ℕ) → List ℕ → Parse State
runs_on n h x o g ls ps ts r = bind (many (one_run n) h.runs r) (λ rs q. got (state_of h x o g ls ps ts rs) q)

abbrev pub tags_on : ℕ → Head → List ℕ → List ℕ → List ℕ → List (List ℕ) → List Property → List ℕ → Parse State
tags_on n h x o g ls ps r = bind (many (one_text ok_tag) h.tags r) (λ ts q. runs_on n h x o g ls ps ts q)

abbrev pub props_on : ℕ → Head → List ℕ → List ℕ → List ℕ → List (List ℕ) → List ℕ → Parse State
props_on n h x o g ls r = bind (many one_prop h.properties r) (λ ps q. tags_on n h x o g ls ps q)

abbrev pub links_on : ℕ → Head → List ℕ → List ℕ → List ℕ → List ℕ → Parse State
links_on n h x o g r = bind (many (one_text ok_link) h.links r) (λ ls q. props_on n h x o g ls q)

abbrev pub group_on : ℕ → Head → List ℕ → List ℕ → List ℕ → Parse State
group_on n h x o r = bind (one_sized ok_owner h.group r) (λ g q. links_on n h x o g q)

abbrev pub owner_on : ℕ → Head → List ℕ → List ℕ → Parse State
owner_on n h x r = bind (one_sized ok_owner h.owner r) (λ o q. group_on n h x o q)

abbrev pub output_on : ℕ → Head → List ℕ → Parse State
output_on n h r = bind (one_sized ok_output h.output r) (λ x q. owner_on n h x q)

abbrev pub parts : ℕ → List ℕ → Parse State
parts n bs = bind (read_head bs) (output_on n)

-- nothing after the end, and no entry twice
abbrev pub ended : Parse State → Option State
ended bad = None
ended (got s (b ∷ bs)) = None
ended (got s []) = elim (apart s) [ true ↦ Some s | false ↦ None ]

-- the sound outcome records beside a chain of n devices, and no others (refusal 4)
unfoldable pub decode : ℕ → List ℕ → Option State
decode n bs = ended (parts n bs)

-- ---- a fresh outcome

abbrev pub open_all : Closed
open_all = record { links = false; tags = false; runs = false; owner = false; group = false; mode = false }

-- the device's properties; all else is empty, unset or zero
unfoldable pub fresh : Device → State
fresh d =
    record {
      closed = open_all;
      owner = [];
      group = [];
      mode = None;
      priority = 0;
      output = [];
      watch = 0;
      links = [];
      properties = d.properties;
      tags = [];
      runs = [];
    }
