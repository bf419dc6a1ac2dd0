-- Worked examples of running, as one computed claim: those of document 01 that are not marked, its mistakes that look right, and each
-- refusal that reading does not give.
-- Assumes nothing.
use mathlib.Core.Path.{◌≡◌, refl}
use mathlib.Core.List.{List, [], ◌∷◌, ◌++◌}
use lib.ListN.{take, drop, replicate}
use Rattle.lists.specs.Quoted.{bytes}
use Rattle.device.specs.Device as device
use Rattle.engine.specs.Operations as operations
use Rattle.engine.proofs.Cases.{Case, lists, answers, leaves, wrong, properties, member, device_of, alone, tty, usb, chain16, changed, blank, answer, bare, empty, empty1, refused3, refused4, sound4, record_of}

pub examples : List Case
unfolding properties member device_of alone tty usb chain16 changed blank answer bare empty empty1 refused3 refused4 sound4 record_of
examples =
    lists "all digits" (alone [] "/b/0123" []) "SYMLINK+=\"x%n\"" "visited 1\ntried 0\npriority 0\nlink x0123\n"
    -- a 17th link; one that is held already; a place that was freed
    ∷ lists "17th link" tty "SYMLINK+=\"a b c d e f g h i j k l m n o p\"\nSYMLINK+=\"q\"" "refused 32 line 2\n"
    ∷ lists "17th held" tty "SYMLINK+=\"a b c d e f g h i j k l m n o p\"\nSYMLINK+=\"c\"" "visited 2\ntried 0\npriority 0\nlink a\nlink b\nlink c\nlink d\nlink e\nlink f\nlink g\nlink h\nlink i\nlink j\nlink k\nlink l\nlink m\nlink n\nlink o\nlink p\n"
    ∷ lists "freed place" tty "SYMLINK+=\"a b c d e f g h i j k l m n o p\"\nSYMLINK-=\"p\", SYMLINK+=\"p\"" "visited 2\ntried 0\npriority 0\nlink a\nlink b\nlink c\nlink d\nlink e\nlink f\nlink g\nlink h\nlink i\nlink j\nlink k\nlink l\nlink m\nlink n\nlink o\nlink p\n"
    -- priorities at both ends
    ∷ lists "lowest priority" tty "OPTIONS+=\"link_priority=-2147483648\"" "visited 1\ntried 0\npriority -2147483648\n"
    ∷ lists "highest priority" tty "OPTIONS=\"link_priority=2147483647\"" "visited 1\ntried 0\npriority 2147483647\n"
    ∷ lists "priority too high" tty "OPTIONS=\"link_priority=2147483648\"" "refused 15 line 1\n"
    -- the longest line
    ∷ answers "1,024 bytes" (operations.run (35 ∷ replicate 1023 120) bare empty blank 18125) 0 0 0 13 18125
    ∷ answers "1,025 bytes" (operations.run (10 ∷ 35 ∷ replicate 1024 120) bare empty blank 18125) 10 2 0 0 18125
    -- the listing's example
    ∷ lists "listing" usb "KERNEL==\"ttyUSB[0-9]*\", ATTRS{serial}==\"RC-0417\", SYMLINK+=\"rope/trip%n\", MODE=\"0660\", GROUP=\"dialout\"" "visited 1\ntried 2\npriority 0\nmode 0660\ngroup dialout\nlink rope/trip0\n"
    ∷ lists "listing refused" tty "\nTAG+=\"a\"\n\nGOTO=\"b\"\n" "refused 19 line 4\n"
    ∷ lists "listing escapes" tty "ENV{a}=\"\\\t\", OWNER=\"o\", RUN{builtin}+=\"x %k\", RUN+=\"\"" "visited 1\ntried 0\npriority 0\nowner o\nenv a=\\x5c\\x09\nbuiltin x ttyUSB0\n"
    -- mistake: a match that sees what its own rule assigns
    ∷ lists "match first" tty "ENV{x}=\"1\", ENV{x}==\"1\", TAG+=\"bad\"" "visited 1\ntried 0\npriority 0\n"
    ∷ lists "match first, lists" tty "TAG+=\"a\", TAG!=\"a\", SYMLINK+=\"l\", SYMLINK!=\"l\"" "visited 1\ntried 0\npriority 0\nlink l\ntag a\n"
    ∷ lists "assignments in turn" tty "ENV{x}=\"1\", SYMLINK+=\"a$env{x}\", ENV{x}=\"2\", SYMLINK+=\"a$env{x}\"" "visited 1\ntried 0\npriority 0\nlink a1\nlink a2\nenv x=2\n"
    -- mistake: two ancestors share the parent keys
    ∷ lists "one ancestor" tty "KERNELS==\"1-1\", DRIVERS==\"ftdi\", ATTRS{serial}==\"RC-0417\", SUBSYSTEMS==\"usb\", TAG+=\"t\"" "visited 1\ntried 2\npriority 0\ntag t\n"
    ∷ lists "two ancestors" tty "KERNELS==\"1-1\", DRIVERS==\"usb\", TAG+=\"t\"" "visited 1\ntried 3\npriority 0\n"
    -- mistake: `!=` as "no ancestor matches"
    ∷ lists "unequal at one" tty "KERNELS!=\"1-1\", SYMLINK+=\"$id\"" "visited 1\ntried 1\npriority 0\nlink ttyUSB0\n"
    ∷ lists "unequal with equal" tty "SUBSYSTEMS==\"usb\", DRIVERS!=\"ftdi\", SYMLINK+=\"%b\"" "visited 1\ntried 3\npriority 0\nlink usb1\n"
    ∷ lists "unequal at none" tty "KERNELS!=\"*\", TAG+=\"t\"" "visited 1\ntried 3\npriority 0\n"
    ∷ lists "nearest" tty "SUBSYSTEMS==\"usb\", SYMLINK+=\"$id-$driver-$attr{serial}\"" "visited 1\ntried 2\npriority 0\nlink 1-1-ftdi-RC-0417\n"
    -- mistake: RUN substituted when its rule runs
    ∷ lists "RUN at the close" tty "ENV{x}=\"1\", RUN+=\"p $env{x}\"\nENV{x}=\"2\"" "visited 2\ntried 0\npriority 0\nenv x=2\nprogram p 2\n"
    ∷ lists "RUN by place" tty "DRIVERS==\"ftdi\", RUN+=\"$attr{serial} %b $driver\"\nRUN+=\"$attr{serial}%b$driver.\"" "visited 2\ntried 2\npriority 0\nprogram RC-0417 1-1 ftdi\nprogram .\n"
    ∷ lists "RUN both types" tty "RUN+=\"a\", RUN{builtin}+=\"a\", RUN+=\"a\"" "visited 1\ntried 0\npriority 0\nprogram a\nbuiltin a\nprogram a\n"
    ∷ lists "RUN emptied" tty "RUN+=\"a\"\nRUN{builtin}=\"\"" "visited 2\ntried 0\npriority 0\n"
    -- mistake: GOTO backwards
    ∷ lists "GOTO back" tty "LABEL=\"a\"\nGOTO=\"a\"" "refused 19 line 2\n"
    ∷ lists "GOTO on" tty "LABEL=\"a\"\nGOTO=\"a\"\nTAG+=\"skipped\"\nLABEL=\"a\", TAG+=\"t\"\nTAG+=\"u\"\nLABEL=\"a\"" "visited 5\ntried 0\npriority 0\ntag t\ntag u\n"
    ∷ lists "GOTO not taken" tty "KERNEL==\"x\", GOTO=\"a\"\nTAG+=\"t\"\nLABEL=\"a\"" "visited 3\ntried 0\npriority 0\ntag t\n"
    -- mistake: a 17th link dropped, and nobody told
    ∷ lists "17 at once" tty "\nSYMLINK+=\"a b c d e f g h i j k l m n o p q\"" "refused 32 line 2\n"
    -- lists
    ∷ lists "lists" tty "SYMLINK+=\"a b\"\nSYMLINK+=\"b a c\"\nSYMLINK-=\"a x\"\nSYMLINK+=\"a\"" "visited 4\ntried 0\npriority 0\nlink b\nlink c\nlink a\n"
    ∷ lists "emptied" tty "SYMLINK+=\"a b\", TAG+=\"t\"\nSYMLINK=\"\", TAG=\"\"" "visited 2\ntried 0\npriority 0\n"
    ∷ lists "nothing to add" tty "TAG+=\"t\", TAG+=\"\", TAG-=\"\", SYMLINK+=\"  \", SYMLINK-=\"\"" "visited 1\ntried 0\npriority 0\ntag t\n"
    ∷ lists "some and none" tty "SYMLINK+=\"a b\"\nSYMLINK==\"b\", SYMLINK!=\"c\", TAG+=\"1\"\nSYMLINK!=\"b\", TAG+=\"2\"\nTAG==\"\", TAG+=\"3\"" "visited 4\ntried 0\npriority 0\nlink a\nlink b\ntag 1\n"
    ∷ lists "byte rule" tty "ENV{v}=\"a b/(c)\", SYMLINK+=\"$env{v} (d)\"" "visited 1\ntried 0\npriority 0\nlink a_b/_c_\nlink _d_\nenv v=a b/(c)\n"
    ∷ lists "replace" tty "OPTIONS=\"string_escape=replace\", ENV{v}=\"a b/(c)\"\nENV{w}=\"(\"" "visited 2\ntried 0\npriority 0\nenv v=a_b/_c_\nenv w=(\n"
    ∷ lists "removing checks" tty "SYMLINK-=\"a//b\"" "refused 31 line 1\n"
    -- closed keys
    ∷ lists "closed" tty "SYMLINK:=\"a\", TAG:=\"t\", RUN:=\"r\", OWNER:=\"o\", GROUP:=\"g\", MODE:=\"1\"\nSYMLINK+=\"..\", SYMLINK-=\"a\", SYMLINK=\"b\", TAG=\"u\", RUN{builtin}=\"s\", OWNER=\"\", GROUP=\"no good\", MODE=\"999\""
    "visited 2\ntried 0\npriority 0\nmode 0001\nowner o\ngroup g\nlink a\ntag t\nprogram r\n"
    -- ENV: literal, kept place, removed
    ∷ lists "properties" (alone (("a", "1") ∷ ("b", "2") ∷ ("c", "") ∷ []) "/x" []) "ENV{a}=\"$kernel\", ENV{b}=\"\", ENV{d}=\"4\", ENV{b}=\"5\"" "visited 1\ntried 0\npriority 0\nenv a=$kernel\nenv c=\nenv d=4\nenv b=5\n"
    -- 30: 513 bytes; 512 are a text, and then an owner too long
    ∷ lists "30" (alone (("v", "xxxxxxxxxxxxxxxxxxxxxxxxxxxxxxxxxxxxxxxxxxxxxxxxxxxxxxxxxxxxxxxx") ∷ []) "/a" []) "OWNER=\"$env{v}$env{v}$env{v}$env{v}$env{v}$env{v}$env{v}$env{v}+\"" "refused 30 line 1\n"
    ∷ lists "512" (alone (("v", "xxxxxxxxxxxxxxxxxxxxxxxxxxxxxxxxxxxxxxxxxxxxxxxxxxxxxxxxxxxxxxxx") ∷ []) "/a" []) "OWNER=\"$env{v}$env{v}$env{v}$env{v}$env{v}$env{v}$env{v}$env{v}\"" "refused 33 line 1\n"
    ∷ lists "30 at the close" (alone (("v", "xxxxxxxxxxxxxxxxxxxxxxxxxxxxxxxxxxxxxxxxxxxxxxxxxxxxxxxxxxxxxxxx") ∷ []) "/a" []) "\nRUN+=\"$env{v}$env{v}$env{v}$env{v}$env{v}$env{v}$env{v}$env{v}+\"" "refused 30 line 0\n"
    -- 31, 33, 34, and links name by name
    ∷ lists "31 absolute" tty "SYMLINK+=\"x%p\"\nSYMLINK+=\"%p\"" "refused 31 line 2\n"
    ∷ lists "31 before 32" tty "SYMLINK+=\"a b c d e f g h i j k l m n o p\"\nSYMLINK+=\"a/. q\"" "refused 31 line 2\n"
    ∷ lists "32 before 31" tty "SYMLINK+=\"a b c d e f g h i j k l m n o p\"\nSYMLINK+=\"q a/.\"" "refused 32 line 2\n"
    ∷ lists "33" tty "GROUP=\"a b\"" "refused 33 line 1\n"
    ∷ lists "33 empty" tty "OWNER=\"$env{none}\"" "refused 33 line 1\n"
    ∷ lists "34 empty" tty "MODE=\"\"" "refused 34 line 1\n"
    -- 1
    ∷ answers "1 fresh" (operations.fresh bare 18124) 1 0 0 0 18124
    ∷ answers "1 run" (operations.run (bytes "x") bare empty blank 18124) 1 0 0 0 18124
    ∷ answers "1 close" (operations.close bare empty 8224) 1 0 0 0 8224
    ∷ answers "close needs less" (operations.close bare empty 8225) 0 0 0 1 8225
    -- the packed forms by hand
    ∷ leaves "closes links" (operations.run (bytes "SYMLINK:=\"\"") bare empty blank 18125) (changed 0 40 empty)
    ∷ leaves "closes tags" (operations.run (bytes "TAG:=\"\"") bare empty blank 18125) (changed 0 36 empty)
    ∷ leaves "closes runs" (operations.run (bytes "RUN:=\"\"") bare empty blank 18125) (changed 0 34 empty)
    ∷ leaves "closes owner" (operations.run (bytes "OWNER:=\"o\"") bare empty blank 18125) (changed 0 33 (changed 1 1 empty) ++ (111 ∷ []))
    ∷ leaves "closes group" (operations.run (bytes "GROUP:=\"g\"") bare empty blank 18125) (changed 1 128 (changed 2 4 empty) ++ (103 ∷ []))
    ∷ leaves "closes mode" (operations.run (bytes "MODE:=\"1\"") bare empty blank 18125) (changed 1 64 (changed 2 2 (changed 4 32 empty)))
    ∷ leaves "priority -1" (operations.run (bytes "OPTIONS=\"link_priority=-1\"") bare empty blank 18125) (changed 4 31 (changed 5 255 (changed 6 255 (changed 7 255 (changed 8 224 empty)))))
    ∷ leaves "fresh" (operations.fresh bare 18125) empty
    ∷ leaves "fresh, longer target" (operations.fresh bare 20000) empty
    ∷ leaves "empty text" (operations.run [] bare empty blank 18125) empty
    ∷ answers "visited" (operations.run (bytes "TAG=\"a\"\n\n#\nKERNEL==\"b\"") bare empty blank 18125) 0 0 2 15 18125
    ∷ leaves "packed run" (operations.run (bytes "KERNELS==\"a\", RUN{builtin}+=\"xy\"") bare empty blank 18125) (record_of 0 0 1 (132 ∷ 4 ∷ 120 ∷ 121 ∷ []))
    ∷ leaves "run list" (operations.close bare (record_of 0 0 1 (132 ∷ 4 ∷ 37 ∷ 107 ∷ [])) 8225) (8 ∷ 128 ∷ 32 ∷ 97 ∷ [])
    -- 3, and what is sound beside it
    ∷ refused3 "3 empty" []
    ∷ refused3 "3 edition" (changed 0 32 bare)
    ∷ refused3 "3 unused" (changed 6 1 bare)
    ∷ refused3 "3 major without a node" (changed 2 1 bare)
    ∷ refused3 "3 chain of two" (changed 0 17 bare)
    ∷ refused3 "3 path" (changed 11 97 bare)
    ∷ refused3 "3 empty component" (changed 12 47 bare)
    ∷ refused3 "3 NUL" (changed 12 0 bare)
    ∷ refused3 "3 more bytes" (bare ++ (0 ∷ []))
    ∷ refused3 "3 cut short" (take 12 bare)
    ∷ refused3 "3 unused of a device" (changed 10 1 bare)
    ∷ refused3 "3 parent is no cut" (changed 0 17 bare ++ drop 7 bare)
    ∷ answers "root as parent" (operations.fresh ((17 ∷ 0 ∷ 0 ∷ 0 ∷ 0 ∷ 0 ∷ 0 ∷ 2 ∷ 0 ∷ 0 ∷ 0 ∷ 47 ∷ 97 ∷ 47 ∷ 98 ∷ []) ++ drop 7 bare) 18125) 0 0 0 13 18125
    -- 3 comes after a fault of the text
    ∷ answers "text first" (operations.run (bytes "x") [] [] blank 18125) 11 1 0 0 18125
    ∷ answers "device next" (operations.run (bytes "") [] [] blank 18125) 3 0 0 0 18125
    -- 4
    ∷ refused4 "4 empty" []
    ∷ refused4 "4 edition 1" (changed 0 16 empty)
    ∷ refused4 "4 a record of edition 1" empty1
    ∷ refused4 "4 edition 3" (changed 0 48 empty)
    ∷ refused4 "4 mode without its mark" (changed 3 1 empty)
    ∷ refused4 "4 more bytes" (empty ++ (0 ∷ []))
    ∷ refused4 "4 owner" ((32 ∷ 1 ∷ 0 ∷ 0 ∷ 0 ∷ 0 ∷ 0 ∷ 0 ∷ 0 ∷ 0 ∷ 0 ∷ 0 ∷ 0 ∷ 32 ∷ []))
    ∷ sound4 "owner" ((32 ∷ 1 ∷ 0 ∷ 0 ∷ 0 ∷ 0 ∷ 0 ∷ 0 ∷ 0 ∷ 0 ∷ 0 ∷ 0 ∷ 0 ∷ 46 ∷ []))
    ∷ sound4 "two links" (record_of 2 0 0 (1 ∷ 97 ∷ 1 ∷ 32 ∷ []))
    ∷ refused4 "4 equal links" (record_of 2 0 0 (1 ∷ 97 ∷ 1 ∷ 97 ∷ []))
    ∷ refused4 "4 link" (record_of 1 0 0 (2 ∷ 97 ∷ 47 ∷ []))
    ∷ refused4 "4 empty link" (record_of 1 0 0 (0 ∷ []))
    ∷ sound4 "property" (record_of 0 4 0 (2 ∷ 0 ∷ 107 ∷ []))
    ∷ refused4 "4 property key" (record_of 0 4 0 (0 ∷ 1 ∷ 107 ∷ []))
    ∷ refused4 "4 equal keys" (record_of 0 8 0 (2 ∷ 0 ∷ 107 ∷ 2 ∷ 0 ∷ 107 ∷ []))
    ∷ sound4 "equal runs" (record_of 0 0 2 (4 ∷ 2 ∷ 97 ∷ 4 ∷ 2 ∷ 97 ∷ []))
    ∷ refused4 "4 place" (record_of 0 0 1 (8 ∷ 2 ∷ 97 ∷ []))
    ∷ refused4 "4 unused bit" (record_of 0 0 1 (4 ∷ 3 ∷ 97 ∷ []))
    ∷ refused4 "4 template" (record_of 0 0 1 (4 ∷ 2 ∷ 36 ∷ []))
    ∷ sound4 "closed and unset" (changed 0 47 (changed 1 192 empty))
    -- settings of string_escape, closed keys, templates, matching, jumps and records in combination
    ∷ lists "escape in turn" (alone (("P", "a b") ∷ []) "/a" []) "SYMLINK+=\"1$env{P}\", OPTIONS=\"string_escape=none\", SYMLINK+=\"2$env{P}\", OPTIONS+=\"string_escape=replace\", SYMLINK+=\"3$env{P}\"" "visited 1\ntried 0\npriority 0\nlink 1a_b\nlink 2a\nlink b\nlink 3a_b\nenv P=a b\n"
    ∷ lists "escape ends with the rule" (alone (("P", "a b") ∷ []) "/a" []) "OPTIONS=\"string_escape=none\"\nSYMLINK+=\"$env{P}\"" "visited 2\ntried 0\npriority 0\nlink a_b\nenv P=a b\n"
    ∷ lists "escape of ENV in turn" tty "OPTIONS=\"string_escape=replace\", ENV{a}=\"(x)\", OPTIONS=\"string_escape=none\", ENV{b}=\"(x)\"" "visited 1\ntried 0\npriority 0\nenv a=_x_\nenv b=(x)\n"
    ∷ lists "priority keeps the escape" tty "OPTIONS=\"string_escape=none\", OPTIONS=\"link_priority=5\", SYMLINK+=\"(a)\"" "visited 1\ntried 0\npriority 5\nlink (a)\n"
    ∷ lists "replace cleans links too" (alone (("P", "a b") ∷ []) "/a" []) "OPTIONS=\"string_escape=replace\", SYMLINK+=\"(a) $env{P}\"" "visited 1\ntried 0\npriority 0\nlink _a_\nlink a_b\nenv P=a b\n"
    ∷ lists "written tab, none" tty "OPTIONS=\"string_escape=none\", SYMLINK+=\"a\tb  c \"" "visited 1\ntried 0\npriority 0\nlink a\\x09b\nlink c\n"
    ∷ lists "inserted spaces alone" (alone (("P", "  ") ∷ []) "/a" []) "SYMLINK+=\"$env{P}\", OPTIONS=\"string_escape=none\", SYMLINK+=\"$env{P}\"" "visited 1\ntried 0\npriority 0\nlink __\nenv P=  \n"
    ∷ lists "removal cleans" tty "SYMLINK+=\"a_ b\"\nOPTIONS=\"string_escape=none\", SYMLINK-=\"a(\"\nSYMLINK-=\"x a(\"" "visited 3\ntried 0\npriority 0\nlink b\n"
    ∷ lists "every link byte" tty "SYMLINK+=\"AZaz09#+-.:=@_/!b\"" "visited 1\ntried 0\npriority 0\nlink AZaz09#+-.:=@_/_b\n"
    ∷ lists "no rule for owners" (alone (("P", "a b") ∷ []) "/a" []) "OPTIONS=\"string_escape=replace\", OWNER=\"$env{P}\"" "refused 33 line 1\n"
    ∷ lists "closed, then removed" tty "SYMLINK:=\"a b\", SYMLINK-=\"a\"" "visited 1\ntried 0\npriority 0\nlink a\nlink b\n"
    ∷ lists "closed within a rule" tty "TAG:=\"t\", TAG+=\"u\", TAG-=\"t\", TAG=\"v\", OWNER:=\"o\", OWNER=\"b\", MODE:=\"1\", MODE:=\"9\"" "visited 1\ntried 0\npriority 0\nmode 0001\nowner o\ntag t\n"
    ∷ lists "closed, no 30" (alone (("v", "xxxxxxxxxxxxxxxxxxxxxxxxxxxxxxxxxxxxxxxxxxxxxxxxxxxxxxxxxxxxxxxx") ∷ []) "/a" [])
    "OWNER:=\"o\"\nOWNER=\"$env{v}$env{v}$env{v}$env{v}$env{v}$env{v}$env{v}$env{v}+\""
    "visited 2\ntried 0\npriority 0\nowner o\nenv v=xxxxxxxxxxxxxxxxxxxxxxxxxxxxxxxxxxxxxxxxxxxxxxxxxxxxxxxxxxxxxxxx\n"
    ∷ leaves "closed in the record" (operations.run (bytes "SYMLINK+=\"/\", SYMLINK-=\"..\", TAG=\"t\"") bare (changed 0 40 empty) blank 18125) (changed 0 40 (record_of 0 0 32 (1 ∷ 116 ∷ [])))
    ∷ lists "owner apart from group" tty "OWNER:=\"o\"\nGROUP=\"g\", GROUP=\"h\", OWNER=\"p\"" "visited 2\ntried 0\npriority 0\nowner o\ngroup h\n"
    ∷ lists "present but empty" (device_of [] (member "/p/e1" "tty" "" (("s", "") ∷ [])) (member "/p" "usb" "d" (("s", "P") ∷ []) ∷ [])) "SUBSYSTEMS==\"usb\", SYMLINK+=\"x$attr{s} y%s{t}\"" "visited 1\ntried 2\npriority 0\nlink x\nlink y\n"
    ∷ lists "attribute trimmed at its end" (device_of [] (member "/p/e1" "tty" "" (("s", " a\tb \n") ∷ [])) (member "/p" "usb" "d" [] ∷ [])) "SYMLINK+=\"x$attr{s}\", RUN+=\"$attr{s}.\"" "visited 1\ntried 0\npriority 0\nlink x_a_b\nprogram  a\\x09b.\n"
    ∷ lists "property not trimmed" (alone (("P", "a ") ∷ []) "/a" []) "SYMLINK+=\"x%E{P}\"" "visited 1\ntried 0\npriority 0\nlink xa_\nenv P=a \n"
    ∷ lists "missing is not empty" tty "ATTRS{serial}!=\"\", SYMLINK+=\"$id\"\nATTRS{serial}==\"\", SYMLINK+=\"x$id\"" "visited 2\ntried 4\npriority 0\nlink ttyUSB0\n"
    ∷ lists "no driver" tty "DRIVERS==\"\", SYMLINK+=\"x$id$driver\"\nDRIVERS==\"?*\", SYMLINK+=\"y$driver\"\nDRIVER==\"\", TAG+=\"t\"\nDRIVER!=\"*\", TAG+=\"u\"" "visited 4\ntried 5\npriority 0\nlink yftdi\ntag u\n"
    ∷ lists "parent key and event key" tty "KERNEL==\"ttyUSB0\", KERNELS==\"usb1\", ATTR{serial}!=\"*\", ATTRS{serial}==\"hub\", SYMLINK+=\"$id/$attr{serial}\"" "visited 1\ntried 3\npriority 0\nlink usb1/hub\n"
    ∷ leaves "place 16" (operations.run (bytes "KERNELS==\"a\", RUN+=\"%b\"\nKERNELS==\"p\", RUN{builtin}+=\"x\"") (device.encode chain16) empty blank 18125) (record_of 0 0 2 (64 ∷ 4 ∷ 37 ∷ 98 ∷ 132 ∷ 2 ∷ 120 ∷ []))
    ∷ lists "from label to label" tty "GOTO=\"a\"\nTAG+=\"x\"\nLABEL=\"a\", GOTO=\"a\"\nTAG+=\"y\"\nLABEL=\"a\", TAG+=\"z\"" "visited 3\ntried 0\npriority 0\ntag z\n"
    ∷ lists "label on a rule that fails" tty "GOTO=\"a\"\nTAG+=\"x\"\nLABEL=\"a\", KERNEL==\"no\", TAG+=\"y\", GOTO=\"a\"\nTAG+=\"z\"\nLABEL=\"a\"" "visited 4\ntried 0\npriority 0\ntag z\n"
    ∷ lists "jump over a jump" tty "GOTO=\"b\"\nGOTO=\"c\"\nLABEL=\"b\", TAG+=\"b\"\nTAG+=\"x\"\nLABEL=\"c\"" "visited 4\ntried 0\npriority 0\ntag b\ntag x\n"
    ∷ lists "17th run though held" tty "RUN+=\"a\", RUN+=\"a\", RUN+=\"a\", RUN+=\"a\", RUN+=\"a\", RUN+=\"a\", RUN+=\"a\", RUN+=\"a\", RUN+=\"a\", RUN+=\"a\", RUN+=\"a\", RUN+=\"a\", RUN+=\"a\", RUN+=\"a\", RUN+=\"a\", RUN+=\"a\"\nRUN{builtin}+=\"\"\nRUN+=\"a\"" "refused 32 line 3\n"
    ∷ lists "17th held once cleaned" tty "SYMLINK+=\"a b c d e f g h i j k l m n o p_\"\nSYMLINK+=\"p( a p)\"" "visited 2\ntried 0\npriority 0\nlink a\nlink b\nlink c\nlink d\nlink e\nlink f\nlink g\nlink h\nlink i\nlink j\nlink k\nlink l\nlink m\nlink n\nlink o\nlink p_\n"
    ∷ lists "30 before 31" (alone (("v", "xxxxxxxxxxxxxxxxxxxxxxxxxxxxxxxxxxxxxxxxxxxxxxxxxxxxxxxxxxxxxxxx") ∷ []) "/a" []) "SYMLINK+=\"/$env{v}$env{v}$env{v}$env{v}$env{v}$env{v}$env{v}$env{v}\"" "refused 30 line 1\n"
    ∷ leaves "close to nothing" (operations.close bare (record_of 0 0 2 (0 ∷ 14 ∷ 36 ∷ 101 ∷ 110 ∷ 118 ∷ 123 ∷ 120 ∷ 125 ∷ 128 ∷ 4 ∷ 37 ∷ 98 ∷ [])) 8225) (16 ∷ 0 ∷ 0 ∷ 128 ∷ 0 ∷ [])
    ∷ leaves "close of 512" (operations.close bare (record_of 0 4 1 ((3 ∷ 0 ∷ 107 ∷ replicate 256 121) ++ (128 ∷ 28 ∷ (bytes "$env{k}$env{k}")))) 8225) (8 ∷ 192 ∷ 0 ∷ replicate 512 121)
    ∷ leaves "every section" (operations.run (bytes "OWNER=\"o\", GROUP=\"gh\", SYMLINK=\"l/m n\", ENV{k}=\"v\", ENV{w}=\"xy\", TAG=\"t\", RUN=\"a\", RUN{builtin}+=\"b\", MODE=\"4\", OPTIONS=\"link_priority=258\"") bare empty blank 18125)
    (32 ∷ 1 ∷ 10 ∷ 0 ∷ 128 ∷ 0 ∷ 0 ∷ 32 ∷ 66 ∷ 8 ∷ 34 ∷ 0 ∷ 0 ∷ 111 ∷ 103 ∷ 104 ∷ 3 ∷ 108 ∷ 47 ∷ 109 ∷ 1 ∷ 110 ∷ 2 ∷ 1 ∷ 107 ∷ 118 ∷ 2 ∷ 2 ∷ 119 ∷ 120 ∷ 121 ∷ 1 ∷ 116 ∷ 0 ∷ 2 ∷ 97 ∷ 128 ∷ 2 ∷ 98 ∷ [])
    ∷ leaves "16 of each, packed"
    (operations.run
    (bytes "SYMLINK=\"a b c d e f g h i j k l m n o p\"\n"
    ++ (bytes "TAG+=\"a\", TAG+=\"b\", TAG+=\"c\", TAG+=\"d\", TAG+=\"e\", TAG+=\"f\", TAG+=\"g\", TAG+=\"h\", TAG+=\"i\", TAG+=\"j\", TAG+=\"k\", TAG+=\"l\", TAG+=\"m\", TAG+=\"n\", TAG+=\"o\", TAG+=\"p\"\n"
    ++ bytes "RUN+=\"a\", RUN+=\"a\", RUN+=\"a\", RUN+=\"a\", RUN+=\"a\", RUN+=\"a\", RUN+=\"a\", RUN+=\"a\", RUN+=\"a\", RUN+=\"a\", RUN+=\"a\", RUN+=\"a\", RUN+=\"a\", RUN+=\"a\", RUN+=\"a\", RUN+=\"a\"")) bare empty blank 18125)
    (32 ∷ 0 ∷ 0 ∷ 0 ∷ 0 ∷ 0 ∷ 0 ∷ 0 ∷ 16 ∷ 2 ∷ 16 ∷ 0 ∷ 0
    ∷ 1 ∷ 97 ∷ 1 ∷ 98 ∷ 1 ∷ 99 ∷ 1 ∷ 100 ∷ 1 ∷ 101 ∷ 1 ∷ 102 ∷ 1 ∷ 103 ∷ 1 ∷ 104 ∷ 1 ∷ 105 ∷ 1 ∷ 106 ∷ 1 ∷ 107 ∷ 1 ∷ 108 ∷ 1 ∷ 109 ∷ 1 ∷ 110 ∷ 1 ∷ 111 ∷ 1 ∷ 112
    ∷ 1 ∷ 97 ∷ 1 ∷ 98 ∷ 1 ∷ 99 ∷ 1 ∷ 100 ∷ 1 ∷ 101 ∷ 1 ∷ 102 ∷ 1 ∷ 103 ∷ 1 ∷ 104 ∷ 1 ∷ 105 ∷ 1 ∷ 106 ∷ 1 ∷ 107 ∷ 1 ∷ 108 ∷ 1 ∷ 109 ∷ 1 ∷ 110 ∷ 1 ∷ 111 ∷ 1 ∷ 112
    ∷ 0 ∷ 2 ∷ 97 ∷ 0 ∷ 2 ∷ 97 ∷ 0 ∷ 2 ∷ 97 ∷ 0 ∷ 2 ∷ 97 ∷ 0 ∷ 2 ∷ 97 ∷ 0 ∷ 2 ∷ 97 ∷ 0 ∷ 2 ∷ 97 ∷ 0 ∷ 2 ∷ 97 ∷ 0 ∷ 2 ∷ 97 ∷ 0 ∷ 2 ∷ 97 ∷ 0 ∷ 2 ∷ 97 ∷ 0 ∷ 2 ∷ 97 ∷ 0 ∷ 2 ∷ 97 ∷ 0 ∷ 2 ∷ 97 ∷ 0 ∷ 2 ∷ 97 ∷ 0 ∷ 2 ∷ 97 ∷ [])
    ∷ leaves "a link that cleaning would not give" (operations.run
    (bytes "SYMLINK-=\"$$\"\nOPTIONS=\"string_escape=none\", SYMLINK-=\"$$\"\nMODE=\"0\", OPTIONS=\"link_priority=-2147483648\"") bare
    (32 ∷ 128 ∷ 3 ∷ 255 ∷ 160 ∷ 0 ∷ 0 ∷ 0 ∷ 33 ∷ 4 ∷ 33 ∷ 0 ∷ 0 ∷ 1 ∷ 36 ∷ 2 ∷ 2 ∷ 125 ∷ 10 ∷ 255 ∷ 2 ∷ 32 ∷ 47 ∷ 0 ∷ 4 ∷ 37 ∷ 37 ∷ []) blank 18125)
    (32 ∷ 128 ∷ 2 ∷ 0 ∷ 16 ∷ 0 ∷ 0 ∷ 0 ∷ 0 ∷ 4 ∷ 33 ∷ 0 ∷ 0 ∷ 2 ∷ 2 ∷ 125 ∷ 10 ∷ 255 ∷ 2 ∷ 32 ∷ 47 ∷ 0 ∷ 4 ∷ 37 ∷ 37 ∷ [])
    ∷ lists "ATTR and whitespace" (alone [] "/a" (("s", " \t") ∷ ("t", "x\t \u{b}") ∷ ("e", "") ∷ []))
    "ATTR{s}==\"\", ATTR{t}==\"x\", ATTR{e}==\"\", ATTR{no}!=\"\", TAG+=\"1\"\nATTR{s}==\" \", TAG+=\"2\"\nATTR{s}==\" \t\", TAG+=\"3\"\nATTR{t}==\"x\t\", TAG+=\"4\"\nATTR{e}==\" \", TAG+=\"5\"\nATTR{no}!=\" \", TAG+=\"6\"\nATTR{t}!=\"x\", TAG+=\"7\"\nATTR{t}!=\"x \", TAG+=\"8\""
    "visited 8\ntried 0\npriority 0\ntag 1\ntag 3\ntag 6\ntag 8\n"
    ∷ lists "ENV keeps its whitespace" (alone (("e", "x ") ∷ []) "/a" []) "ENV{e}==\"x\", TAG+=\"1\"\nENV{e}==\"x \", TAG+=\"2\"\nENV{e}!=\"x\", TAG+=\"3\"" "visited 3\ntried 0\npriority 0\nenv e=x \ntag 2\ntag 3\n"
    ∷ lists "DEVPATH and KERNEL" tty "DEVPATH==\"*/usb1/*\", DEVPATH!=\"/devices\", KERNEL==\"ttyUSB?\", SUBSYSTEM==\"tty|usb\", TAG+=\"1\"\nDEVPATH==\"ttyUSB0\", TAG+=\"2\"\nKERNEL==\"*/ttyUSB0\", TAG+=\"3\"" "visited 3\ntried 0\npriority 0\ntag 1\n"
    ∷ leaves "unbind" (operations.run (bytes "ACTION==\"unbind\", TAG=\"a\"\nACTION==\"bind\", TAG=\"b\"") (changed 1 224 bare) empty blank 18125) (record_of 0 0 32 (1 ∷ 97 ∷ []))
    ∷ lists "lists judged whole" tty "SYMLINK+=\"a/b c\", TAG+=\"x\"\nSYMLINK==\"a*b\", SYMLINK==\"c\", SYMLINK!=\"a\", TAG==\"x\", TAG!=\"c\", TAG+=\"1\"\nSYMLINK==\"?|*/b\", SYMLINK!=\"a*|d\", TAG+=\"2\"\nSYMLINK!=\"*\", TAG+=\"3\""
    "visited 4\ntried 0\npriority 0\nlink a/b\nlink c\ntag x\ntag 1\n"
    ∷ lists "numbers of a node" tty "RUN+=\"%M:%m $major/$minor %% $$ %p $devpath %k %n\"" "visited 1\ntried 0\npriority 0\nprogram 188:3 188/3 % $ /devices/usb1/1-1/ttyUSB0 /devices/usb1/1-1/ttyUSB0 ttyUSB0 0\n"
    ∷ lists "signs in turn" tty "RUN+=\"$$kernel %%k $$$kernel %%%k\"" "visited 1\ntried 0\npriority 0\nprogram $kernel %k $ttyUSB0 %ttyUSB0\n"
    ∷ []

pub shown : wrong examples ≡ []
unfolding wrong examples
shown = refl
