-- Worked examples of the lines of texts: their words and numbers, what they mean, and what is said of bad ones. No
-- other proof rests on them. A definition that says another thing than docs/COMMANDS.md is refused here.
use Rattle.std.proofs.Common.{◌≡◌, ℕ, List, [], ◌∷◌, ◌++◌, refl, ap, pos, negsuc}
use Rattle.std.proofs.Common.{Some, None, codes, replicate, map, length, length-append, get_or, arith}
use Rattle.plain_table.specs.Commands.Command.{Create, Insert, Move, Delete, Drop, Get, Count, Range}
use Rattle.plain_table.specs.Commands.Command.{Nearest, Join, Layers, Dump, Check, Reopen}
use Rattle.plain_table.specs.declared.boxes.RawBox.TheVariants.{Two, Three}
use Rattle.plain_table.specs.declared.boxes.RawPoint.TheVariants as point
use Rattle.plain_table.specs.declared.queries.RawQuery.TheVariants.{Window, Inside, Around, Point}
use Rattle.command_language.specs.Entries.{entry_in, first_bad}
use Rattle.command_language.specs.Lines.{lines_of, words_of, IsWhole}
use Rattle.command_language.specs.Lines.IsWhole.{none as nothing, ends}
use Rattle.command_language.specs.Meanings.{meaning_of, words_mean}
use Rattle.command_language.specs.Meanings.Meaning.{Blank, Bad, Loads, Means}
use Rattle.command_language.specs.Numbers.{number_in, coordinate_of}
use Rattle.command_language.specs.Usages.{usage_in}

abbrev a : List ℕ
a = codes "a"

abbrev b : List ℕ
b = codes "b"

-- ---- lines

no_text_has_no_line : lines_of [] ≡ []
no_text_has_no_line = refl

the_last_line_needs_no_newline : lines_of (codes "a\nb") ≡ a ∷ b ∷ []
the_last_line_needs_no_newline = refl

nothing_behind_the_last_newline_is_no_line : lines_of (codes "a\nb\n") ≡ a ∷ b ∷ []
nothing_behind_the_last_newline_is_no_line = refl

each_newline_ends_a_line : lines_of (codes "\n\n\n") ≡ [] ∷ [] ∷ [] ∷ []
each_newline_ends_a_line = refl

an_empty_line_between : lines_of (codes "a\n\nb") ≡ a ∷ [] ∷ b ∷ []
an_empty_line_between = refl

a_carriage_return_ends_no_line : lines_of (codes "a\rb\r\n") ≡ codes "a\rb\r" ∷ []
a_carriage_return_ends_no_line = refl

a_text_of_whole_lines : IsWhole (codes "a\nb\n")
a_text_of_whole_lines = ends (codes "a\nb")

one_byte_is_no_end : (line : List ℕ) → line ++ 10 ∷ [] ≡ a → ⊥
one_byte_is_no_end [] e = absurd (omega (arith, ap (λ t. get_or t 0 0) e))
one_byte_is_no_end (x ∷ xs) e = absurd (omega (arith, ap length e, length-append xs (10 ∷ [])))

a_line_without_its_newline_is_not_whole : {text : List ℕ} → IsWhole text → text ≡ a → ⊥
a_line_without_its_newline_is_not_whole nothing e = absurd (cc)
a_line_without_its_newline_is_not_whole (ends line) e = one_byte_is_no_end line e

-- ---- words

a_line_of_blanks_has_no_word : words_of (codes " \t\r ") ≡ []
a_line_of_blanks_has_no_word = refl

blanks_stand_before_between_and_behind : words_of (codes "\t a \t\r b\r") ≡ a ∷ b ∷ []
blanks_stand_before_between_and_behind = refl

-- a vertical tab, a form feed, a zero and a byte above ASCII
other_bytes_are_parts_of_words : words_of
    (97 ∷ 11 ∷ 12 ∷ 0 ∷ 160 ∷ 97 ∷ []) ≡ (97 ∷ 11 ∷ 12 ∷ 0 ∷ 160 ∷ 97 ∷ []) ∷ []
other_bytes_are_parts_of_words = refl

-- ---- numbers

numbers : map number_in (codes "0" ∷ codes "7" ∷ codes "0007" ∷ codes "18446744073709551615" ∷ codes "00018446744073709551615" ∷ [])
    ≡ Some 0 ∷ Some 7 ∷ Some 7 ∷ Some 18446744073709551615 ∷ Some 18446744073709551615 ∷ []
numbers = refl

no_numbers : map number_in ([] ∷ codes "+5" ∷ codes "-0" ∷ codes "5a" ∷ codes "0x5" ∷ codes "5." ∷ codes "18446744073709551616" ∷ codes "99999999999999999999999" ∷ []) ≡ replicate 8 None
no_numbers = refl

-- the bytes beside `0` and `9`
no_digits : map (λ byte. number_in (49 ∷ byte ∷ [])) (47 ∷ 58 ∷ []) ≡ None ∷ None ∷ []
no_digits = refl

coordinates : map coordinate_of (codes "0" ∷ codes "-0" ∷ codes "00" ∷ codes "-1" ∷ codes "-007" ∷ codes "2147483647" ∷ codes "-2147483648" ∷ [])
    ≡ Some (pos 0) ∷ Some (pos 0) ∷ Some (pos 0) ∷ Some (negsuc 0) ∷ Some (negsuc 6) ∷ Some
    (pos 2147483647) ∷ Some (negsuc 2147483647) ∷ []
coordinates = refl

no_coordinates : map coordinate_of ([] ∷ codes "-" ∷ codes "--1" ∷ codes "+5" ∷ codes "-+5" ∷ codes "1-" ∷ codes "2147483648" ∷ codes "-2147483649" ∷ codes "18446744073709551616" ∷ []) ≡ replicate 9 None
no_coordinates = refl

-- ---- what lines mean

create_names_a_layer_its_axes_and_its_fanout : meaning_of (codes "create a 2 4") ≡ Means (Create a 2 4)
create_names_a_layer_its_axes_and_its_fanout = refl

blanks_and_leading_zeros_do_not_matter : meaning_of (codes " \tcreate a\t0002  4 \r") ≡ Means (Create a 2 4)
blanks_and_leading_zeros_do_not_matter = refl

a_layer_is_any_word : meaning_of (codes "create #A+ 18446744073709551615 0") ≡ Means (Create (codes "#A+") 18446744073709551615 0)
a_layer_is_any_word = refl

insert_gives_all_lows_and_then_all_highs : meaning_of (codes "insert a 7 1 -2 3 -4") ≡ Means (Insert a 7 (Two (pos 1 ∷ negsuc 1 ∷ []) (pos 3 ∷ negsuc 3 ∷ [])) 0)
insert_gives_all_lows_and_then_all_highs = refl

insert_in_space : meaning_of (codes "insert a 7 1 2 3 4 5 6") ≡ Means (Insert a 7 (Three (pos 1 ∷ pos 2 ∷ pos 3 ∷ []) (pos 4 ∷ pos 5 ∷ pos 6 ∷ [])) 0)
insert_in_space = refl

window_gives_a_box : meaning_of (codes "window window 1 2 3 4") ≡ Means (Range (codes "window") (Window (Two (pos 1 ∷ pos 2 ∷ []) (pos 3 ∷ pos 4 ∷ []))) None)
window_gives_a_box = refl

inside_and_around_give_boxes : map meaning_of (codes "inside a 1 2 3 4" ∷ codes "around a 1 2 3 4" ∷ []) ≡ Means (Range a (Inside (Two (pos 1 ∷ pos 2 ∷ []) (pos 3 ∷ pos 4 ∷ []))) None) ∷ Means (Range a (Around (Two (pos 1 ∷ pos 2 ∷ []) (pos 3 ∷ pos 4 ∷ []))) None) ∷ []
inside_and_around_give_boxes = refl

point_gives_two_or_three_coordinates : map meaning_of (codes "point a 1 -2" ∷ codes "point a 1 2 3" ∷ []) ≡ Means (Range a (Point (point.Two (pos 1 ∷ negsuc 1 ∷ []))) None) ∷ Means (Range a (Point (point.Three (pos 1 ∷ pos 2 ∷ pos 3 ∷ []))) None) ∷ []
point_gives_two_or_three_coordinates = refl

bad_points : map meaning_of (codes "point" ∷ codes "point a" ∷ codes "point a 1" ∷ codes "point a 1 2 3 4" ∷ codes "point a 1 2 3 4 5 6 7" ∷ codes "point a +1 2" ∷ []) ≡ replicate 6 Bad
bad_points = refl

get_names_a_layer_and_an_identifier : meaning_of (codes "get get 007") ≡ Means (Get (codes "get") 7)
get_names_a_layer_and_an_identifier = refl

bad_gets : map meaning_of (codes "get" ∷ codes "get a" ∷ codes "get a -1" ∷ codes "get a 1 2" ∷ codes "get a 18446744073709551616" ∷ []) ≡ replicate 5 Bad
bad_gets = refl

count_names_a_layer : meaning_of (codes " count 0 ") ≡ Means (Count (codes "0"))
count_names_a_layer = refl

bad_counts : map meaning_of (codes "count" ∷ codes "count a b" ∷ codes "counts a" ∷ []) ≡ replicate 3 Bad
bad_counts = refl

nearest_gives_a_number_and_a_point : meaning_of (codes "nearest a 3 1 -2") ≡ Means (Nearest a 3 (point.Two (pos 1 ∷ negsuc 1 ∷ [])))
nearest_gives_a_number_and_a_point = refl

bad_nearests : map meaning_of (codes "nearest a" ∷ codes "nearest a 1" ∷ codes "nearest a 1 2" ∷ codes "nearest a -1 0 0" ∷ codes "nearest a 1 0 0 0 0" ∷ []) ≡ replicate 5 Bad
bad_nearests = refl

move_is_as_insert : meaning_of (codes "move a 7 1 -2 3 -4") ≡ Means (Move a 7 (Two (pos 1 ∷ negsuc 1 ∷ []) (pos 3 ∷ negsuc 3 ∷ [])))
move_is_as_insert = refl

delete_names_a_layer_and_an_identifier : meaning_of (codes "delete delete 007") ≡ Means (Delete (codes "delete") 7)
delete_names_a_layer_and_an_identifier = refl

drop_names_a_layer : meaning_of (codes "drop drop") ≡ Means (Drop (codes "drop"))
drop_names_a_layer = refl

bad_changes : map meaning_of (codes "move a 1" ∷ codes "move a 1 0 0 0" ∷ codes "move a -1 0 0 0 0" ∷ codes "delete a" ∷ codes "delete a 1 2" ∷ codes "delete a +1" ∷ codes "drop" ∷ codes "drop a b" ∷ []) ≡ replicate 8 Bad
bad_changes = refl

join_names_two_layers : map meaning_of (codes "join a b" ∷ codes "join a a" ∷ []) ≡ Means (Join a b 0) ∷ Means (Join a a 0) ∷ []
join_names_two_layers = refl

join_may_have_a_distance : map meaning_of (codes "join a b 007" ∷ codes "join a b 18446744073709551615" ∷ []) ≡ Means (Join a b 7) ∷ Means (Join a b 18446744073709551615) ∷ []
join_may_have_a_distance = refl

bad_distances : map meaning_of (codes "join a b c" ∷ codes "join a b 18446744073709551616" ∷ codes "join a b -1" ∷ codes "join a b +1" ∷ codes "join a b 1 2" ∷ []) ≡ replicate 5 Bad
bad_distances = refl

layers_dump_and_check_are_one_word : map meaning_of (codes "layers" ∷ codes " dump\t" ∷ codes "check\r" ∷ []) ≡ Means Layers ∷ Means Dump ∷ Means Check ∷ []
layers_dump_and_check_are_one_word = refl

bad_questions : map meaning_of (codes "join" ∷ codes "join a" ∷ codes "layers a" ∷ codes "dump a" ∷ codes "check a" ∷ codes "Layers" ∷ codes "dumps" ∷ []) ≡ replicate 7 Bad
bad_questions = refl

reopen_is_one_word : map meaning_of (codes "reopen" ∷ codes "\t reopen \r" ∷ []) ≡ replicate 2 (Means Reopen)
reopen_is_one_word = refl

bad_reopens : map meaning_of (codes "reopen a" ∷ codes "reopen reopen" ∷ codes "reopen #" ∷ codes "REOPEN" ∷ codes "reopens" ∷ codes "reope" ∷ codes "re open" ∷ []) ≡ replicate 7 Bad
bad_reopens = refl

-- ---- tags

insert_may_have_a_tag : map meaning_of (codes "insert a 7 1 2 3 4 tag 5" ∷ codes "insert a 7 1 2 3 4 tag 0" ∷ codes "insert a 7 1 2 3 4 5 6\ttag 4294967295 \r" ∷ [])
    ≡ Means (Insert a 7 (Two (pos 1 ∷ pos 2 ∷ []) (pos 3 ∷ pos 4 ∷ [])) 5) ∷ Means
    (Insert a 7 (Two (pos 1 ∷ pos 2 ∷ []) (pos 3 ∷ pos 4 ∷ [])) 0) ∷ Means
    (Insert a 7 (Three (pos 1 ∷ pos 2 ∷ pos 3 ∷ []) (pos 4 ∷ pos 5 ∷ pos 6 ∷ [])) 4294967295) ∷ []
insert_may_have_a_tag = refl

-- a query for the tag 0 asks for another thing than one without a tag
box_queries_may_have_a_tag : map meaning_of (codes "window a 1 2 3 4 tag 0" ∷ codes "inside a 1 2 3 4 tag 007" ∷ codes "around a 1 2 3 4 5 6 tag 5" ∷ [])
    ≡ Means (Range a (Window (Two (pos 1 ∷ pos 2 ∷ []) (pos 3 ∷ pos 4 ∷ []))) (Some 0)) ∷ Means
    (Range a (Inside (Two (pos 1 ∷ pos 2 ∷ []) (pos 3 ∷ pos 4 ∷ []))) (Some 7)) ∷ Means
    (Range a (Around (Three (pos 1 ∷ pos 2 ∷ pos 3 ∷ []) (pos 4 ∷ pos 5 ∷ pos 6 ∷ []))) (Some 5)) ∷ []
box_queries_may_have_a_tag = refl

points_may_have_a_tag : map meaning_of (codes "point a 1 -2 tag 5" ∷ codes "point a 1 2 3 tag 4294967295" ∷ []) ≡ Means (Range a (Point (point.Two (pos 1 ∷ negsuc 1 ∷ []))) (Some 5)) ∷ Means (Range a (Point (point.Three (pos 1 ∷ pos 2 ∷ pos 3 ∷ []))) (Some 4294967295)) ∷ []
points_may_have_a_tag = refl

entry_lines_may_have_a_tag : map entry_in (codes "7 1 2 3 4 tag 5" ∷ codes "7 1 2 3 4 5 6 tag 4294967295\r" ∷ []) ≡ Some (7, Two (pos 1 ∷ pos 2 ∷ []) (pos 3 ∷ pos 4 ∷ []), 5) ∷ Some (7, Three (pos 1 ∷ pos 2 ∷ pos 3 ∷ []) (pos 4 ∷ pos 5 ∷ pos 6 ∷ []), 4294967295) ∷ []
entry_lines_may_have_a_tag = refl

a_layer_may_be_named_tag : map meaning_of (codes "get tag 5" ∷ codes "window tag 0 0 1 1" ∷ codes "point tag 1 2 tag 3" ∷ codes "insert tag 7 1 2 3 4 tag 5" ∷ codes "join tag tag 5" ∷ codes "load tag 5" ∷ [])
    ≡ Means (Get (codes "tag") 5) ∷ Means (Range (codes "tag") (Window (Two (pos 0 ∷ pos 0 ∷ []) (pos 1 ∷ pos 1 ∷ []))) None) ∷ Means (Range (codes "tag") (Point (point.Two (pos 1 ∷ pos 2 ∷ []))) (Some 3)) ∷ Means (Insert (codes "tag") 7 (Two (pos 1 ∷ pos 2 ∷ []) (pos 3 ∷ pos 4 ∷ [])) 5) ∷ Means (Join (codes "tag") (codes "tag") 5) ∷ Loads (codes "tag") 5 ∷ []
a_layer_may_be_named_tag = refl

-- without a number, with a word behind, twice, or with a number out of range
bad_tags : map meaning_of (codes "window a 1 2 3 4 tag" ∷ codes "window a 1 2 3 4 tag 5 6" ∷ codes "window a 1 2 3 4 tag 5 tag 5" ∷ codes "window a 1 2 3 4 tag 4294967296" ∷ codes "window a 1 2 3 4 tag -0" ∷ codes "window a 1 2 3 4 5" ∷ codes "window a 1 2 3 4 TAG 5" ∷ codes "window a 1 2 3 4 tag5" ∷ codes "insert a 7 1 2 3 4 tag" ∷ codes "insert a 7 1 2 3 4 tag tag" ∷ codes "point a 1 2 tag x" ∷ [])
    ≡ replicate 11 Bad
bad_tags = refl

-- in front of the box or the point, within it, or where there is none
tags_out_of_place : map meaning_of (codes "window tag 5 a 1 2 3 4" ∷ codes "window a tag 5 1 2 3 4" ∷ codes "window a 1 2 tag 5 3 4" ∷ codes "window a tag 5" ∷ codes "window a 1 2 3 tag 5" ∷ codes "point a tag 5" ∷ codes "insert a tag 5" ∷ codes "insert a tag 5 7 1 2 3 4" ∷ []) ≡ replicate 8 Bad
tags_out_of_place = refl

lines_that_take_no_tag : map meaning_of (codes "move a 1 0 0 1 1 tag 7" ∷ codes "get a 5 tag 5" ∷ codes "delete a 5 tag 5" ∷ codes "nearest a 1 0 0 tag 5" ∷ codes "join a b tag 5" ∷ codes "join a b 1 tag 5" ∷ codes "count a tag 5" ∷ codes "create a 2 4 tag 5" ∷ codes "load a 5 tag 5" ∷ codes "drop a tag 5" ∷ codes "dump tag 5" ∷ codes "layers tag 5" ∷ []) ≡ replicate 12 Bad
lines_that_take_no_tag = refl

bad_tags_in_entry_lines : map entry_in (codes "7 1 2 3 4 tag" ∷ codes "7 1 2 3 4 tag 4294967296" ∷ codes "7 1 2 3 4 tag 5 6" ∷ codes "7 tag 5" ∷ codes "tag 5 7 1 2 3 4" ∷ codes "7 tag 5 1 2 3 4" ∷ []) ≡ replicate 6 None
bad_tags_in_entry_lines = refl

-- ---- further lines

-- the store refuses it, not the language
a_low_above_its_high_is_a_box : meaning_of (codes "window a 1 1 0 0") ≡ Means (Range a (Window (Two (pos 1 ∷ pos 1 ∷ []) (pos 0 ∷ pos 0 ∷ []))) None)
a_low_above_its_high_is_a_box = refl

blank_lines_and_comments : map meaning_of ([] ∷ codes " \t\r" ∷ codes "#" ∷ codes "# create a 2 4" ∷ codes " \t#create a 2 4" ∷ codes "##" ∷ []) ≡ replicate 6 Blank
blank_lines_and_comments = refl

names_of_no_command : map meaning_of (codes "CREATE a 2 4" ∷ codes "Create a 2 4" ∷ codes "creat a 2 4" ∷ codes "creates a 2 4" ∷ codes "drops a" ∷ codes "loads a 1" ∷ codes "a" ∷ []) ≡ replicate 7 Bad
names_of_no_command = refl

load_names_a_layer_and_a_number_of_lines : map meaning_of (codes "load a 5" ∷ codes "load load 0" ∷ codes "load a 1073741824" ∷ []) ≡ Loads a 5 ∷ Loads (codes "load") 0 ∷ Loads a 1073741824 ∷ []
load_names_a_layer_and_a_number_of_lines = refl

bad_loads : map meaning_of (codes "load" ∷ codes "load a" ∷ codes "load a -1" ∷ codes "load a 1 2" ∷ codes "load a 1073741825" ∷ []) ≡ replicate 5 Bad
bad_loads = refl

entry_lines : map entry_in (codes "7 1 -2 3 -4" ∷ codes " 007 1 2 3 4 5 6\r" ∷ [])
    ≡ Some (7, Two (pos 1 ∷ negsuc 1 ∷ []) (pos 3 ∷ negsuc 3 ∷ []), 0) ∷ Some
    (7, Three (pos 1 ∷ pos 2 ∷ pos 3 ∷ []) (pos 4 ∷ pos 5 ∷ pos 6 ∷ []), 0) ∷ []
entry_lines = refl

-- a blank line and a comment among them
no_entry_lines : map entry_in ([] ∷ codes "# 1 0 0 0 0" ∷ codes "7" ∷ codes "7 1 2 3" ∷ codes "-7 1 2 3 4" ∷ codes "insert a 7 1 2 3 4" ∷ []) ≡ replicate 6 None
no_entry_lines = refl

bad_creates : map meaning_of (codes "create" ∷ codes "create a" ∷ codes "create a 2" ∷ codes "create a 2 4 4" ∷ codes "create a +2 4" ∷ codes "create a 2 -4" ∷ codes "create a 2 4 # more" ∷ []) ≡ replicate 7 Bad
bad_creates = refl

bad_inserts : map meaning_of (codes "insert" ∷ codes "insert a" ∷ codes "insert a 1" ∷ codes "insert a -1 0 0 0 0" ∷ codes "insert a 18446744073709551616 0 0 0 0" ∷ codes "insert a 5 0 0 0 2147483648" ∷ []) ≡ replicate 6 Bad
bad_inserts = refl

-- of four or six coordinates, and of no other number
boxes_of_another_number_of_coordinates : map meaning_of (codes "window a" ∷ codes "window a 0 0" ∷ codes "window a 0 0 0" ∷ codes "window a 0 0 0 0 0" ∷ codes "window a 0 0 0 0 0 0 0" ∷ codes "window a 0 0 0 0 0 0 0 0" ∷ []) ≡ replicate 6 Bad
boxes_of_another_number_of_coordinates = refl

a_line_of_4097_bytes_is_bad : (line : List ℕ) → length line ≡ 4097 → meaning_of line ≡ Bad
a_line_of_4097_bytes_is_bad line long = rw long refl

a_line_of_4096_bytes_is_read : (line : List ℕ) → length line ≡ 4096
    → meaning_of line ≡ words_mean (words_of line)
a_line_of_4096_bytes_is_read line fits = rw fits refl

-- ---- what is wrong with bad lines

bad_lines_begin_as_commands : map (λ line. usage_in (words_of line)) (codes " insert\ta +3" ∷ codes "insert" ∷ codes "load a 3" ∷ codes "check b" ∷ []) ≡ codes "usage: insert LAYER ID BOX [tag N]" ∷ codes "usage: insert LAYER ID BOX [tag N]" ∷ codes "usage: load LAYER N, and N lines ID BOX [tag N]" ∷ codes "usage: check" ∷ []
bad_lines_begin_as_commands = refl

no_command_begins_so : map (λ line. usage_in (words_of line)) (codes "Insert a" ∷ codes "inserts a" ∷ codes "1 0 0 1 1" ∷ [])
    ≡ replicate 3 (codes "no command begins so")
no_command_begins_so = refl

the_first_bad_entry_line : first_bad (codes "1 0 0 1 1" ∷ codes "2 0 0" ∷ [] ∷ codes "3 0 0 1 1" ∷ []) ≡ Some 2
the_first_bad_entry_line = refl

no_bad_entry_line : first_bad (codes "1 0 0 1 1" ∷ codes "1 0 0 1 1 tag 7" ∷ []) ≡ None
no_bad_entry_line = refl
