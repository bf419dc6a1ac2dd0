-- Worked examples of running for document 02's Items 4, 8, 9, 1, 10, 5 and 6, as one computed claim for each.
-- Assumes nothing.
use mathlib.Core.Path.{◌≡◌, refl}
use mathlib.Core.List.{List, [], ◌∷◌, ◌++◌}
use Rattle.lists.specs.Quoted.{bytes}
use Rattle.device.specs.Device as device
use Rattle.engine.specs.Operations as operations
use Rattle.engine.specs.Convert as convert
use Rattle.engine.proofs.Cases.{Case, lists, sheets, answers, tries, leaves, wrong, properties, member, device_of, alone, tty, usb, chain16, changed, blank, said, bare, empty, empty1, refused3, refused4, sound4, record_of}

-- document 02, Item 4: an absent attribute or driver is not an empty one; ENV and SUBSYSTEM keep the empty reading
pub item4 : List Case
unfolding properties member device_of alone tty usb chain16 changed blank bare empty empty1 refused3 refused4 sound4 record_of
item4 =
    lists "no serial" (alone [] "/a" []) "ATTR{serial}!=\"*\", TAG+=\"1\"\nATTR{serial}==\"*\", TAG+=\"2\"\nATTR{serial}==\"\", TAG+=\"3\"\nATTR{serial}!=\"\", TAG+=\"4\"" "visited 4\ntried 0\npriority 0\ntag 1\ntag 4\n"
    ∷ lists "a serial of no bytes" (alone [] "/a" (("serial", "") ∷ [])) "ATTR{serial}!=\"*\", TAG+=\"1\"\nATTR{serial}==\"*\", TAG+=\"2\"\nATTR{serial}==\"\", TAG+=\"3\"\nATTR{serial}!=\"\", TAG+=\"4\"" "visited 4\ntried 0\npriority 0\ntag 2\ntag 3\n"
    ∷ lists "a serial of blanks" (alone [] "/a" (("serial", " \t") ∷ [])) "ATTR{serial}==\"\", TAG+=\"1\"\nATTR{serial}!=\"*\", TAG+=\"2\"" "visited 2\ntried 0\npriority 0\ntag 1\n"
    ∷ lists "absent at each device" tty "ATTRS{serial}!=\"*\", SYMLINK+=\"a$id\"\nATTRS{serial}==\"*\", SYMLINK+=\"b$id\"\nSUBSYSTEMS==\"usb\", ATTRS{serial}!=\"*\", SYMLINK+=\"c$id\"\nATTRS{serial}==\"hub\", SYMLINK+=\"d$id\"" "visited 4\ntried 9\npriority 0\nlink attyUSB0\nlink b1-1\nlink dusb1\n"
    ∷ lists "no driver at each device" tty "DRIVERS!=\"*\", SYMLINK+=\"a$id\"\nDRIVERS==\"*\", SYMLINK+=\"b$id\"\nDRIVERS!=\"ftdi\", KERNELS!=\"ttyUSB0\", SYMLINK+=\"c$id\"\nDRIVER==\"*\", TAG+=\"1\"\nDRIVER!=\"*\", TAG+=\"2\""
    "visited 5\ntried 6\npriority 0\nlink attyUSB0\nlink b1-1\nlink cusb1\ntag 2\n"
    ∷ lists "a driver" (device_of [] (member "/p/e1" "" "d" []) []) "DRIVER==\"?\", DRIVER!=\"e\", TAG+=\"1\"\nDRIVER!=\"*\", TAG+=\"2\"\nSUBSYSTEM==\"\", SUBSYSTEMS==\"*\", TAG+=\"3\"\nENV{x}==\"\", ENV{x}==\"*\", TAG+=\"4\"\nENV{x}!=\"*\", TAG+=\"5\""
    "visited 5\ntried 1\npriority 0\ntag 1\ntag 3\ntag 4\n"
    ∷ lists "templates insert nothing" tty "SYMLINK+=\"a$attr{serial}b$driver%b\", RUN+=\"x$attr{none}y$env{none}z\"" "visited 1\ntried 0\npriority 0\nlink ab\nprogram xyz\n"
    ∷ []

pub shown4 : wrong item4 ≡ []
unfolding wrong item4
shown4 = refl

-- document 02, Item 8: 36 where the assignment takes place, after 30 and 34, before what stands to its right
pub item8 : List Case
unfolding properties member device_of alone tty usb chain16 changed blank bare empty empty1 refused3 refused4 sound4 record_of
item8 =
    lists "0002" tty "TAG+=\"a\"\nMODE=\"0002\"" "refused 36 line 2\n"
    ∷ lists "0666" tty "MODE:=\"666\"" "refused 36 line 1\n"
    ∷ lists "0775 and 1" tty "MODE=\"0775\"\nMODE=\"1\"" "visited 2\ntried 0\npriority 0\nmode 0001\n"
    ∷ lists "last digits 2 3 6 7" tty "MODE=\"4\", MODE=\"5\", MODE=\"7774\", MODE=\"1\", MODE=\"0\", MODE=\"20\", MODE=\"3\"" "refused 36 line 1\n"
    ∷ lists "34 before 36" tty "MODE=\"00002\"" "refused 34 line 1\n"
    ∷ lists "36 before its right" tty "MODE=\"0006\", SYMLINK+=\"..\", MODE=\"9\"" "refused 36 line 1\n"
    ∷ lists "36 behind its left" tty "SYMLINK+=\"..\", MODE=\"0006\"" "refused 31 line 1\n"
    ∷ lists "no 36 in a rule that fails" tty "KERNEL==\"x\", MODE=\"0666\"" "visited 1\ntried 0\npriority 0\n"
    ∷ lists "no 36 where closed" tty "MODE:=\"0640\"\nMODE=\"0666\"" "visited 2\ntried 0\npriority 0\nmode 0640\n"
    ∷ lists "36 from a property" (alone (("m", "0666") ∷ []) "/a" []) "MODE=\"$env{m}\"" "refused 36 line 1\n"
    ∷ refused4 "4 mode 0666" (changed 2 2 (changed 3 54 (changed 4 192 empty)))
    ∷ sound4 "mode 0664" (changed 2 2 (changed 3 54 (changed 4 128 empty)))
    ∷ answers "close, 4 mode 0666" (operations.close bare (changed 2 2 (changed 3 54 (changed 4 192 empty))) 8225) 4 0 0 0 8225
    ∷ []

pub shown8 : wrong item8 ≡ []
unfolding wrong item8
shown8 = refl

-- document 02, Item 9: the place of the nearest device that satisfies the parent keys, or the chain's length, for every rule whose other
-- keys hold
pub item9 : List Case
unfolding properties member device_of alone tty usb chain16 changed blank bare empty empty1 refused3 refused4 sound4 record_of
item9 =
    lists "tried: event, parent, hub, in vain" tty "KERNELS==\"ttyUSB0\"\nKERNELS==\"1-1\"\nKERNELS==\"usb1\"\nKERNELS==\"x\"" "visited 4\ntried 9\npriority 0\n"
    ∷ lists "tried: other keys first" tty "KERNEL==\"x\", KERNELS==\"usb1\"\nKERNELS==\"usb1\", KERNEL==\"x\"\nKERNELS==\"x\", TAG==\"t\"\nKERNELS==\"x\", TAG!=\"t\"" "visited 4\ntried 3\npriority 0\n"
    ∷ lists "tried: all keys at one device" tty "KERNELS==\"1-1\", DRIVERS==\"usb\"\nSUBSYSTEMS==\"usb\", DRIVERS!=\"ftdi\"" "visited 2\ntried 6\npriority 0\n"
    ∷ lists "tried: no parent keys" tty "KERNEL==\"ttyUSB0\", TAG+=\"t\"\nTAG==\"t\"" "visited 2\ntried 0\npriority 0\ntag t\n"
    ∷ lists "tried: a jump passes over" tty "GOTO=\"a\"\nKERNELS==\"usb1\"\nLABEL=\"a\", KERNELS==\"1-1\"" "visited 2\ntried 2\npriority 0\n"
    ∷ lists "tried: absent is not empty" tty "ATTRS{serial}!=\"*\"\nATTRS{serial}==\"\"" "visited 2\ntried 4\npriority 0\n"
    ∷ tries "tried of 16" (operations.run (bytes "KERNELS==\"a\"\nATTRS{f}==\"no\"\nKERNELS==\"p\"") (device.encode chain16) empty blank 18125) 33
    ∷ tries "refused, nothing tried" (operations.run (bytes "KERNELS==\"a\"\nMODE=\"9\"") bare empty blank 18125) 0
    ∷ tries "fresh" (operations.fresh bare 18125) 0
    ∷ tries "close" (operations.close bare empty 8225) 0
    ∷ []

pub shown9 : wrong item9 ≡ []
unfolding wrong item9
shown9 = refl

-- document 02, Item 1: a value behind an e as a rule has it
pub item1 : List Case
unfolding properties member device_of alone tty usb chain16 changed blank bare empty empty1 refused3 refused4 sound4 record_of
item1 =
    lists "a newline at the end of a match value" (alone [] "/a" (("s", "v\n") ∷ [])) "ATTR{s}==e\"v\\n\", TAG+=\"1\"\nATTR{s}==\"v\", TAG+=\"2\"\nATTR{s}==e\"v\\n\\n\", TAG+=\"3\"" "visited 3\ntried 0\npriority 0\ntag 1\ntag 2\n"
    ∷ lists "a written newline in a link" tty "SYMLINK=e\"a\\nb c\\\\\", ENV{k}=e\"\\\\\"" "visited 1\ntried 0\npriority 0\nlink a_b\nlink c_\nenv k=\\x5c\n"
    ∷ []

pub shown1 : wrong item1 ≡ []
unfolding wrong item1
shown1 = refl

-- document 02, Item 10: joined lines as one rule
pub item10 : List Case
unfolding properties member device_of alone tty usb chain16 changed blank bare empty empty1 refused3 refused4 sound4 record_of
item10 =
    lists "a refusal names the first physical line" tty "TAG+=\"a\"\n\\\nSYMLINK+=\\\n\"/x\"" "refused 31 line 2\n"
    ∷ lists "a joined rule is one rule" tty "KERNEL==\"tty\\\nUSB?\", \\\n TAG+=\"a\\\nb\"\n# c \\\nTAG+=\"c\"" "visited 2\ntried 0\npriority 0\ntag ab\ntag c\n"
    ∷ []

pub shown10 : wrong item10 ≡ []
unfolding wrong item10
shown10 = refl

-- document 02, Item 5: watch in OPTIONS and in the listing
pub item5 : List Case
unfolding properties member device_of alone tty usb chain16 changed blank bare empty empty1 refused3 refused4 sound4 record_of
item5 =
    lists "watch" tty "GROUP=\"g\", SYMLINK+=\"l\", OPTIONS=\"watch\"" "visited 1\ntried 0\npriority 0\ngroup g\nwatch\nlink l\n"
    ∷ lists "nowatch" tty "OPTIONS+=\"nowatch\"" "visited 1\ntried 0\npriority 0\nnowatch\n"
    ∷ lists "latest watch" tty "OPTIONS=\"watch\", OPTIONS=\"nowatch\"\nOPTIONS+=\"watch\"\nKERNEL==\"x\", OPTIONS=\"nowatch\"" "visited 3\ntried 0\npriority 0\nwatch\n"
    ∷ lists "watch keeps the escape" tty "OPTIONS=\"string_escape=none\", OPTIONS=\"watch\", SYMLINK+=\"(a)\"" "visited 1\ntried 0\npriority 0\nwatch\nlink (a)\n"
    ∷ leaves "packed watch" (operations.run (bytes "OPTIONS=\"nowatch\"") bare empty blank 18125) (changed 12 32 empty)
    ∷ leaves "output is kept" (operations.run (bytes "OWNER=\"o\"") bare (changed 12 144 empty ++ (97 ∷ 98 ∷ [])) blank 18125) (changed 1 1 (changed 12 144 empty) ++ (97 ∷ 98 ∷ 111 ∷ []))
    ∷ refused4 "4 watch 3" (changed 12 48 empty)
    ∷ refused4 "4 unused bits" (changed 12 1 empty)
    ∷ refused4 "4 NUL in the output" (changed 12 64 empty ++ (0 ∷ []))
    ∷ sound4 "output with a newline at its end" (changed 12 64 empty ++ (10 ∷ []))
    -- the converters: 1, 3, 4, 5
    ∷ leaves "to new" (convert.newer bare empty1 18125) empty
    ∷ leaves "to old" (convert.older bare empty 17611) empty1
    ∷ answers "to new in more room" (convert.newer bare empty1 20000) 0 0 0 13 20000
    ∷ answers "to new, 1" (convert.newer [] [] 18124) 1 0 0 0 18124
    ∷ answers "to old, 1" (convert.older [] [] 17610) 1 0 0 0 17610
    ∷ answers "to new, 3" (convert.newer [] [] 18125) 3 0 0 0 18125
    ∷ answers "to old, 3" (convert.older [] (changed 12 16 empty) 17611) 3 0 0 0 17611
    ∷ answers "to new, 4" (convert.newer bare empty 18125) 4 0 0 0 18125
    ∷ answers "to old, 4" (convert.older bare empty1 17611) 4 0 0 0 17611
    ∷ answers "to new, 4 mode 0666" (convert.newer bare (changed 2 2 (changed 3 54 (changed 4 192 empty1))) 18125) 4 0 0 0 18125
    ∷ answers "to old, 4 before 5" (convert.older bare (record_of 0 0 1 (8 ∷ 2 ∷ 97 ∷ []) ++ []) 17611) 4 0 0 0 17611
    ∷ answers "to old, 5 watch" (convert.older bare (changed 12 16 empty) 17611) 5 0 0 0 17611
    ∷ answers "to old, 5 output" (convert.older bare (changed 12 64 empty ++ (97 ∷ [])) 17611) 5 0 0 0 17611
    ∷ leaves "to new, every section" (convert.newer bare (16 ∷ 1 ∷ 10 ∷ 0 ∷ 128 ∷ 0 ∷ 0 ∷ 32 ∷ 66 ∷ 8 ∷ 34 ∷ 111 ∷ 103 ∷ 104 ∷ 3 ∷ 108 ∷ 47 ∷ 109 ∷ 1 ∷ 110 ∷ 2 ∷ 1 ∷ 107 ∷ 118 ∷ 2 ∷ 2 ∷ 119 ∷ 120 ∷ 121 ∷ 1 ∷ 116 ∷ 0 ∷ 2 ∷ 97 ∷ 128 ∷ 2 ∷ 98 ∷ []) 18125)
    (32 ∷ 1 ∷ 10 ∷ 0 ∷ 128 ∷ 0 ∷ 0 ∷ 32 ∷ 66 ∷ 8 ∷ 34 ∷ 0 ∷ 0 ∷ 111 ∷ 103 ∷ 104 ∷ 3 ∷ 108 ∷ 47 ∷ 109 ∷ 1 ∷ 110 ∷ 2 ∷ 1 ∷ 107 ∷ 118 ∷ 2 ∷ 2 ∷ 119 ∷ 120 ∷ 121 ∷ 1 ∷ 116 ∷ 0 ∷ 2 ∷ 97 ∷ 128 ∷ 2 ∷ 98 ∷ [])
    ∷ []

pub shown5 : wrong item5 ≡ []
unfolding wrong item5
shown5 = refl

-- document 02, Item 6: PROGRAM and RESULT
pub item6 : List Case
unfolding properties member device_of alone tty usb chain16 changed blank said bare empty empty1 refused3 refused4 sound4 record_of
item6 =
    sheets "stored, newlines gone" tty said "PROGRAM==\"q\", SYMLINK+=\"$result.%c\"" "visited 1\ntried 0\npriority 0\nlink yes.yes\n"
    ∷ sheets "every operator that means ==" tty said "PROGRAM=\"q\", TAG+=\"1\"\nPROGRAM+=\"q\", TAG+=\"2\"\nPROGRAM:=\"q\", TAG+=\"3\"\nPROGRAM=\"f\", TAG+=\"4\"\nPROGRAM:=\"f\", TAG+=\"5\"" "visited 5\ntried 0\npriority 0\ntag 1\ntag 2\ntag 3\n"
    ∷ sheets "unequal holds on failure" tty said "PROGRAM!=\"f\", TAG+=\"1\"\nPROGRAM!=\"q\", TAG+=\"2\"\nRESULT==\"yes\", TAG+=\"3\"" "visited 3\ntried 0\npriority 0\ntag 1\ntag 3\n"
    ∷ sheets "a failure leaves what is stored" tty said "PROGRAM==\"q\"\nPROGRAM==\"f\"\nRESULT==\"yes\", TAG+=\"1\"" "visited 3\ntried 0\npriority 0\ntag 1\n"
    ∷ sheets "an empty output clears" tty said "PROGRAM==\"q\"\nPROGRAM==\"n\"\nRESULT==\"\", TAG+=\"1\"" "visited 3\ntried 0\npriority 0\ntag 1\n"
    ∷ sheets "nothing stored is the empty value" tty said "RESULT==\"\", TAG+=\"1\"\nRESULT!=\"*\", TAG+=\"2\"" "visited 2\ntried 0\npriority 0\ntag 1\n"
    ∷ sheets "stands though the rule fails" tty said "PROGRAM==\"q\", RESULT==\"no\", TAG+=\"1\"\nRESULT==\"yes\", TAG+=\"2\"" "visited 2\ntried 0\npriority 0\ntag 2\n"
    ∷ sheets "RESULT is judged last" tty said "RESULT==\"yes\", PROGRAM==\"q\", TAG+=\"1\"" "visited 1\ntried 0\npriority 0\ntag 1\n"
    ∷ sheets "the output stored by then" tty said "PROGRAM==\"q\", PROGRAM==\"got $result\", RESULT==\"2\", SYMLINK+=\"%c\"" "visited 1\ntried 0\npriority 0\nlink 2\n"
    ∷ sheets "stops at the first that does not hold" tty said "PROGRAM==\"q\", PROGRAM==\"f\", PROGRAM==\"none\", PROGRAM==\"m\", TAG+=\"1\"\nRESULT==\"yes\", TAG+=\"2\"" "visited 2\ntried 0\npriority 0\ntag 2\n"
    ∷ sheets "other keys first, wherever they stand" tty said "PROGRAM==\"none\", KERNEL==\"x\"\nPROGRAM==\"none\", KERNELS==\"x\"\nPROGRAM==\"none\", TAG==\"t\"\nTAG+=\"1\"" "visited 4\ntried 3\npriority 0\ntag 1\n"
    ∷ sheets "35" tty said "TAG+=\"1\"\nPROGRAM==\"none\", MODE=\"9\"" "refused 35 line 2\n"
    ∷ sheets "35 with !=" tty said "PROGRAM!=\"none\"" "refused 35 line 1\n"
    ∷ sheets "35 of an empty command" tty said "PROGRAM==\"\"" "refused 35 line 1\n"
    ∷ sheets "35 before the assignments" tty said "MODE=\"9\", PROGRAM==\"none\"" "refused 35 line 1\n"
    ∷ sheets "a command sees the matched device" tty said "SUBSYSTEMS==\"tty\", PROGRAM==\"r $id\", SYMLINK+=\"$result\"" "visited 1\ntried 1\npriority 0\nlink a_b\n"
    ∷ sheets "inserted whitespace" tty said "PROGRAM==\"r %k\", SYMLINK+=\"x$result\", OPTIONS=\"string_escape=none\", SYMLINK+=\"y$result\"" "visited 1\ntried 0\npriority 0\nlink xa_b\nlink ya\nlink b\n"
    ∷ sheets "36 from an output" tty said "PROGRAM==\"m\", MODE=\"%c\"" "refused 36 line 1\n"
    ∷ sheets "33 from an output" tty said "PROGRAM==\"i\", OWNER=\"%c\"" "refused 33 line 1\n"
    ∷ sheets "only newlines go" tty said "PROGRAM==\"w\", RESULT==\" \t\", TAG+=\"1\"\nPROGRAM==\"i\", RESULT==\"a*b?\", TAG+=\"2\"" "visited 2\ntried 0\npriority 0\ntag 1\ntag 2\n"
    ∷ sheets "$result in RUN is that of the end" tty said "PROGRAM==\"q\", RUN+=\"p $result\"\nPROGRAM==\"m\"" "visited 2\ntried 0\npriority 0\nprogram p 0666\n"
    ∷ sheets "tried whether or not programs hold" tty said "KERNELS==\"1-1\", PROGRAM==\"f\"\nKERNELS==\"1-1\", RESULT==\"x\"\nKERNELS==\"x\", PROGRAM==\"none\"" "visited 3\ntried 7\npriority 0\n"
    ∷ sheets "a jump only if all hold" tty said "PROGRAM==\"f\", GOTO=\"e\"\nTAG+=\"1\"\nPROGRAM==\"q\", RESULT==\"yes\", GOTO=\"e\"\nTAG+=\"2\"\nLABEL=\"e\"" "visited 4\ntried 0\npriority 0\ntag 1\n"
    ∷ sheets "properties as at the rule's start" tty said "ENV{x}=\"q\"\nENV{x}=\"none\", PROGRAM==\"$env{x}\", TAG+=\"1\"" "visited 2\ntried 0\npriority 0\nenv x=none\ntag 1\n"
    ∷ sheets "30 of a command" (alone (("v", "xxxxxxxxxxxxxxxxxxxxxxxxxxxxxxxxxxxxxxxxxxxxxxxxxxxxxxxxxxxxxxxx") ∷ []) "/a" []) [] "\nPROGRAM==\"$env{v}$env{v}$env{v}$env{v}$env{v}$env{v}$env{v}$env{v}+\"" "refused 30 line 2\n"
    ∷ sheets "512 are a command" (alone (("v", "xxxxxxxxxxxxxxxxxxxxxxxxxxxxxxxxxxxxxxxxxxxxxxxxxxxxxxxxxxxxxxxx") ∷ []) "/a" []) [] "\nPROGRAM==\"$env{v}$env{v}$env{v}$env{v}$env{v}$env{v}$env{v}$env{v}\"" "refused 35 line 2\n"
    ∷ leaves "the output in the record" (operations.run (bytes "PROGRAM==\"q\"") bare empty (1 ∷ 128 ∷ 32 ∷ 32 ∷ 113 ∷ 97 ∷ 98 ∷ 99 ∷ 10 ∷ []) 18125) (changed 12 192 empty ++ (97 ∷ 98 ∷ 99 ∷ []))
    ∷ leaves "close inserts it" (operations.close bare ((32 ∷ 0 ∷ 0 ∷ 0 ∷ 0 ∷ 0 ∷ 0 ∷ 0 ∷ 0 ∷ 0 ∷ 1 ∷ 0 ∷ 64 ∷ 121 ∷ 0 ∷ 4 ∷ 37 ∷ 99 ∷ [])) 8225) (8 ∷ 0 ∷ 32 ∷ 121 ∷ [])
    ∷ refused4 "4 brace behind an output" (record_of 0 0 1 (0 ∷ 6 ∷ 37 ∷ 99 ∷ 123 ∷ []))
    ∷ answers "6 no bytes" (operations.run [] bare empty [] 18125) 6 0 0 0 18125
    ∷ answers "6 more bytes" (operations.run [] bare empty (0 ∷ 0 ∷ []) 18125) 6 0 0 0 18125
    ∷ answers "6 unused bits" (operations.run [] bare empty (1 ∷ 128 ∷ 32 ∷ 33 ∷ 113 ∷ 97 ∷ 98 ∷ 99 ∷ 10 ∷ []) 18125) 6 0 0 0 18125
    ∷ answers "6 empty command" (operations.run [] bare empty (1 ∷ 128 ∷ 0 ∷ 0 ∷ []) 18125) 6 0 0 0 18125
    ∷ answers "6 NUL" (operations.run [] bare empty (1 ∷ 0 ∷ 32 ∷ 0 ∷ 0 ∷ []) 18125) 6 0 0 0 18125
    ∷ answers "6 equal commands" (operations.run [] bare empty (2 ∷ 0 ∷ 32 ∷ 0 ∷ 97 ∷ 128 ∷ 32 ∷ 0 ∷ 97 ∷ []) 18125) 6 0 0 0 18125
    ∷ answers "two commands" (operations.run [] bare empty (2 ∷ 0 ∷ 32 ∷ 0 ∷ 97 ∷ 128 ∷ 32 ∷ 0 ∷ 98 ∷ []) 18125) 0 0 0 13 18125
    ∷ answers "4 before 6" (operations.run [] bare [] [] 18125) 4 0 0 0 18125
    ∷ answers "text before 6" (operations.run (bytes "x") bare empty [] 18125) 11 1 0 0 18125
    ∷ answers "6 before running" (operations.run (bytes "MODE=\"9\"") bare empty [] 18125) 6 0 0 0 18125
    ∷ []

pub shown6 : wrong item6 ≡ []
unfolding wrong item6
shown6 = refl
