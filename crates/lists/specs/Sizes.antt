-- Document 01, Sizes: the limits, each under its name.
-- Assumes nothing.
use Rattle.std.specs.Prelude.{ℕ}

-- ---- a rules text

abbrev pub most_text : ℕ
most_text = 32768

abbrev pub most_line : ℕ
most_line = 1024

-- after unescaping
abbrev pub most_value : ℕ
most_value = 256

-- of a rule
abbrev pub most_pairs : ℕ
most_pairs = 32

-- of a text
abbrev pub most_rules : ℕ
most_rules = 512

-- ---- records

-- a device record
abbrev pub most_device : ℕ
most_device = 16384

abbrev pub most_chain : ℕ
most_chain = 16

abbrev pub most_path : ℕ
most_path = 256

-- a subsystem or a driver
abbrev pub most_subsystem : ℕ
most_subsystem = 63

-- of a device
abbrev pub most_attributes : ℕ
most_attributes = 31

-- the key of a property, the name of an attribute, and with these an argument in braces
abbrev pub most_key : ℕ
most_key = 64

abbrev pub most_properties : ℕ
most_properties = 32

abbrev pub most_links : ℕ
most_links = 16

abbrev pub most_link : ℕ
most_link = 128

abbrev pub most_tags : ℕ
most_tags = 16

abbrev pub most_tag : ℕ
most_tag = 64

abbrev pub most_runs : ℕ
most_runs = 16

-- an owner or a group
abbrev pub most_owner : ℕ
most_owner = 32

-- digits
abbrev pub most_mode : ℕ
most_mode = 4

-- document 02, Item 5: a program's last output
abbrev pub most_output : ℕ
most_output = 512

-- document 02, Item 6: an answer sheet, its entries, and the command of an entry
abbrev pub most_sheet : ℕ
most_sheet = 32768

abbrev pub most_replies : ℕ
most_replies = 64

abbrev pub most_command : ℕ
most_command = 512

-- ---- what is made

-- a substituted text
abbrev pub most_substituted : ℕ
most_substituted = 512

-- document 02, Item 5: an outcome record of edition 2, and one of edition 1
abbrev pub fullest_outcome : ℕ
fullest_outcome = 18125

abbrev pub fullest_old : ℕ
fullest_old = 17611

abbrev pub fullest_run_list : ℕ
fullest_run_list = 8225
