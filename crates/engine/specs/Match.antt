-- Document 01, Running: when the match keys of a rule hold, and at which device of the chain its parent keys do.
-- Assumes nothing.
use Rattle.std.specs.Prelude.{ℕ, suc, Bool, true, false, not, ◌&&◌, List, [], ◌∷◌, length}
use Rattle.std.specs.Prelude.{Option, None, Some}
use Rattle.lists.specs.Lists.{pick, all, any}
use Rattle.lists.specs.Runs.{trim, ends_in_space}
use Rattle.entries.specs.Entry.{lookup, or_empty}
use Rattle.pattern.specs.Pattern.{matches}
use Rattle.rules.specs.Key.{Key, ACTION, DEVPATH, KERNEL, KERNELS, SUBSYSTEM, SUBSYSTEMS, DRIVER, DRIVERS, ATTR, ATTRS, ENV, SYMLINK, TAG, OWNER, GROUP, MODE, RUN, LABEL, GOTO, OPTIONS, PROGRAM, RESULT, Op, equal, unequal, assign, add, remove, final, is_match}
use Rattle.rules.specs.Pair.{Pair, Rule}
use Rattle.device.specs.Device.{Member, Device, chain, name_of, attr_of, action_of}
use Rattle.outcome.specs.State.{State}

-- `==` holds where the answer is yes, `!=` where it is no; an operator that assigns judges nothing
abbrev pub judged : Op → Bool → Bool
judged equal b = b
judged unequal b = not b
judged assign b = true
judged add b = true
judged remove b = true
judged final b = true

-- a match key on a value
unfoldable pub value_holds : Pair → List ℕ → Bool
value_holds p v = judged p.op (matches p.value v)

-- some entry of a list matches
abbrev pub some_matches : List ℕ → List (List ℕ) → Bool
some_matches pattern xs = any (λ x. matches pattern x) xs

-- SYMLINK and TAG: `==` where some entry matches, `!=` where none does
unfoldable pub list_holds : Pair → List (List ℕ) → Bool
list_holds p xs = judged p.op (some_matches p.value xs)

-- an attribute as a match value sees it: without its trailing whitespace, unless the match value ends in whitespace
unfoldable pub seen_by : List ℕ → List ℕ → List ℕ
seen_by value a = pick (ends_in_space value) a (trim a)

-- document 02, Item 4: where nothing is present, `==` never holds and `!=` always does
abbrev pub absent_holds : Pair → Bool
absent_holds p = judged p.op false

-- Item 4: an attribute that may be absent; one of no bytes is present
abbrev pub attr_judged : Pair → Option (List ℕ) → Bool
attr_judged p None = absent_holds p
attr_judged p (Some a) = value_holds p (seen_by p.value a)

-- ATTR and ATTRS at one device
unfoldable pub attr_holds : Pair → Member → Bool
attr_holds p m = attr_judged p (attr_of p.argument m)

-- Item 4: DRIVER and DRIVERS at one device; a driver of no bytes is absent
unfoldable pub driver_holds : Pair → List ℕ → Bool
driver_holds p [] = absent_holds p
driver_holds p (b ∷ bs) = value_holds p (b ∷ bs)

-- ---- keys of the event device and of the outcome

unfoldable pub key_holds : Key → Device → State → Pair → Bool
key_holds ACTION d s p = value_holds p (action_of d)
key_holds DEVPATH d s p = value_holds p d.event.path
key_holds KERNEL d s p = value_holds p (name_of d.event)
key_holds SUBSYSTEM d s p = value_holds p d.event.subsystem
key_holds DRIVER d s p = driver_holds p d.event.driver
key_holds ATTR d s p = attr_holds p d.event
key_holds ENV d s p = value_holds p (or_empty (lookup p.argument s.properties))
key_holds SYMLINK d s p = list_holds p s.links
key_holds TAG d s p = list_holds p s.tags
key_holds KERNELS d s p = true
key_holds SUBSYSTEMS d s p = true
key_holds DRIVERS d s p = true
key_holds ATTRS d s p = true
key_holds OWNER d s p = true
key_holds GROUP d s p = true
key_holds MODE d s p = true
key_holds RUN d s p = true
key_holds LABEL d s p = true
key_holds GOTO d s p = true
key_holds OPTIONS d s p = true
-- document 02, Item 6: these are judged behind all others (Programs)
key_holds PROGRAM d s p = true
key_holds RESULT d s p = true

-- one pair, if it is judged at the event device or the outcome; an assignment asks nothing
unfoldable pub pair_holds : Device → State → Pair → Bool
pair_holds d s p = elim (is_match p.op) [ true ↦ key_holds p.key d s p | false ↦ true ]

unfoldable pub all_hold : Device → State → Rule → Bool
all_hold d s r = all (λ p. pair_holds d s p) r

-- ---- parent keys

abbrev pub is_parent : Key → Bool
is_parent KERNELS = true
is_parent SUBSYSTEMS = true
is_parent DRIVERS = true
is_parent ATTRS = true
is_parent ACTION = false
is_parent DEVPATH = false
is_parent KERNEL = false
is_parent SUBSYSTEM = false
is_parent DRIVER = false
is_parent ATTR = false
is_parent ENV = false
is_parent SYMLINK = false
is_parent TAG = false
is_parent OWNER = false
is_parent GROUP = false
is_parent MODE = false
is_parent RUN = false
is_parent LABEL = false
is_parent GOTO = false
is_parent OPTIONS = false
is_parent PROGRAM = false
is_parent RESULT = false

unfoldable pub has_parents : Rule → Bool
has_parents r = any (λ p. is_parent p.key) r

-- one pair at a device of the chain; a pair that is no parent key asks nothing there
unfoldable pub parent_holds : Key → Member → Pair → Bool
parent_holds KERNELS m p = value_holds p (name_of m)
parent_holds SUBSYSTEMS m p = value_holds p m.subsystem
parent_holds DRIVERS m p = driver_holds p m.driver
parent_holds ATTRS m p = attr_holds p m
parent_holds ACTION m p = true
parent_holds DEVPATH m p = true
parent_holds KERNEL m p = true
parent_holds SUBSYSTEM m p = true
parent_holds DRIVER m p = true
parent_holds ATTR m p = true
parent_holds ENV m p = true
parent_holds SYMLINK m p = true
parent_holds TAG m p = true
parent_holds OWNER m p = true
parent_holds GROUP m p = true
parent_holds MODE m p = true
parent_holds RUN m p = true
parent_holds LABEL m p = true
parent_holds GOTO m p = true
parent_holds OPTIONS m p = true
parent_holds PROGRAM m p = true
parent_holds RESULT m p = true

-- all parent keys at one device
unfoldable pub parents_hold : Member → Rule → Bool
parents_hold m r = all (λ p. parent_holds p.key m p) r

-- the place, from n on, of the nearest device at which all of them hold
unfoldable pub nearest : ℕ → List Member → Rule → Option ℕ
nearest n [] r = None
nearest n (m ∷ ms) r = elim (parents_hold m r) [ true ↦ Some n | false ↦ nearest (suc n) ms r ]

-- the place of the matched device: 0 for a rule with no parent keys, none if no device satisfies them
unfoldable pub place_of : Device → Rule → Option ℕ
place_of d r = elim (has_parents r) [ true ↦ nearest 1 (chain d) r | false ↦ Some 0 ]

-- none if a key other than PROGRAM and RESULT does not hold; else the place of the matched device
unfoldable pub matched : Device → State → Rule → Option ℕ
matched d s r = elim (all_hold d s r) [ true ↦ place_of d r | false ↦ None ]

-- ---- document 02, Item 9: the devices tried

-- the place that a search found, or how many devices it went through in vain
abbrev pub place_or : ℕ → Option ℕ → ℕ
place_or n None = n
place_or n (Some place) = place

-- for a rule with parent keys whose other keys hold; nothing for any other rule
unfoldable pub tried : Device → Rule → State → ℕ
tried d r s = elim (all_hold d s r && has_parents r) [ true ↦ place_or (length (chain d)) (nearest 1 (chain d) r) | false ↦ 0 ]
