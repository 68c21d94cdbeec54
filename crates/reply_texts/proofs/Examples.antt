-- Worked examples of the texts of replies and of refused lines. No other proof rests on them. A definition that says
-- another thing than docs/COMMANDS.md is refused here.
use Rattle.std.proofs.Common.{◌≡◌, ℕ, List, [], ◌∷◌, refl, pos, negsuc}
use Rattle.std.proofs.Common.{Some, codes}
use Rattle.std.specs.Fmt.{digits}
use Rattle.plain_table.specs.Step.Answer.{Done, Refused, Boxes, Counted, Distances, Pairs, Listed, Dumped}
use Rattle.plain_table.specs.Listings.DumpLine.{CreateLine, InsertLine}
use Rattle.plain_table.specs.declared.refusal.Refusal.TheVariants as refusal
use Rattle.reply_texts.specs.Refused.{entry_fault}
use Rattle.reply_texts.specs.Texts.{answer_text, texts_of}

abbrev a : List ℕ
a = codes "a"

-- ---- the texts of replies

done_is_ok : answer_text Done ≡ codes "ok\n"
done_is_ok = refl

no_row_is_counted_too : answer_text (Boxes []) ≡ codes "ok 0\n"
unfolding digits
no_row_is_counted_too = refl

rows_are_identifier_lows_and_highs : answer_text
    (Boxes ((1, (record { low = negsuc 0 ∷ pos 2 ∷ []; high = pos 3 ∷ pos 4 ∷ [] }, 0))
    ∷ (
      18446744073709551615,
      (record { low = pos 0 ∷ pos 0 ∷ pos 0 ∷ []; high = pos 1 ∷ pos 1 ∷ pos 2147483647 ∷ [] }, 0),
    ) ∷ []))
    ≡ codes "ok 2\n1 -1 2 3 4\n18446744073709551615 0 0 0 1 1 2147483647\n"
unfolding digits
rows_are_identifier_lows_and_highs = refl

-- a tag that is 0 is not shown
rows_have_tags_behind_the_highs : answer_text
    (Boxes ((1, (record { low = negsuc 0 ∷ pos 2 ∷ []; high = pos 3 ∷ pos 4 ∷ [] }, 5))
    ∷ (2, (record { low = pos 0 ∷ pos 0 ∷ []; high = pos 1 ∷ pos 1 ∷ [] }, 0))
    ∷ (3, (record { low = pos 0 ∷ pos 0 ∷ []; high = pos 1 ∷ pos 1 ∷ [] }, 4294967295)) ∷ []))
    ≡ codes "ok 3\n1 -1 2 3 4 tag 5\n2 0 0 1 1\n3 0 0 1 1 tag 4294967295\n"
unfolding digits
rows_have_tags_behind_the_highs = refl

a_number_is_one_row : answer_text (Counted 1000) ≡ codes "ok 1\n1000\n"
unfolding digits
a_number_is_one_row = refl

distances_have_identifiers : answer_text (Distances ((1, 0) ∷ (18446744073709551615, 55340232195358851075) ∷ [])) ≡ codes "ok 2\n1 0\n18446744073709551615 55340232195358851075\n"
unfolding digits
distances_have_identifiers = refl

pairs_have_two_identifiers : answer_text (Pairs ((1, 2) ∷ (18446744073709551615, 0) ∷ [])) ≡ codes "ok 2\n1 2\n18446744073709551615 0\n"
unfolding digits
pairs_have_two_identifiers = refl

layers_have_names_and_numbers : answer_text (Listed (record { name = a; dims = 2; fanout = 4; count = 2 } ∷ record { name = codes "a_9"; dims = 3; fanout = 100; count = 1073741824 } ∷ [])) ≡ codes "ok 2\na 2 4 2\na_9 3 100 1073741824\n"
unfolding digits
layers_have_names_and_numbers = refl

a_dump_has_lines_of_commands : answer_text (Dumped (CreateLine a 2 4 ∷ InsertLine a 1 (record { low = negsuc 0 ∷ pos 2 ∷ []; high = pos 3 ∷ pos 4 ∷ [] }, 0) ∷ [])) ≡ codes "ok 2\ncreate a 2 4\ninsert a 1 -1 2 3 4\n"
unfolding digits
a_dump_has_lines_of_commands = refl

a_dump_has_lines_with_tags : answer_text (Dumped (InsertLine a 1 (record { low = negsuc 0 ∷ pos 2 ∷ []; high = pos 3 ∷ pos 4 ∷ [] }, 10) ∷ [])) ≡ codes "ok 1\ninsert a 1 -1 2 3 4 tag 10\n"
unfolding digits
a_dump_has_lines_with_tags = refl

refusals_have_numbers_and_names : texts_of
    (Refused refusal.BadName ∷ Refused refusal.NoObject ∷ Refused refusal.BadLine ∷ Refused
    refusal.NoPages ∷ [])
    ≡ codes "fail 1 BadName\nfail 10 NoObject\nfail 24 BadLine\nfail 25 NoPages\n"
unfolding digits
refusals_have_numbers_and_names = refl

three_refusals_have_a_number_more : texts_of
    (Refused (refusal.DuplicateInLoad 18446744073709551615) ∷ Refused (refusal.Damaged 3) ∷ Refused
    (refusal.StoreFailed 17) ∷ [])
    ≡ codes "fail 13 DuplicateInLoad 18446744073709551615\nfail 18 Damaged 3\nfail 19 StoreFailed 17\n"
unfolding digits
three_refusals_have_a_number_more = refl

answers_follow_each_other : texts_of (Done ∷ Boxes [] ∷ Done ∷ []) ≡ codes "ok\nok 0\nok\n"
unfolding digits
answers_follow_each_other = refl

-- ---- what is wrong with bad lines

a_bad_entry_line_is_told_by_its_number : entry_fault 3 (Some 2) [] ≡ codes "line 5 is no entry"
unfolding digits
a_bad_entry_line_is_told_by_its_number = refl
