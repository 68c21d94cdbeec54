-- The journal has its title, and behind it what it had.
use Rattle.std.proofs.Common.{◌≡◌, ◌∙◌, ◌++◌, ◌≤◌, ap, arith, length, subst, sym, take}
use Rattle.block_device.specs.Device.{Blocks, block_at}
use Rattle.titled_pair.specs.Title.{untitled}
use Rattle.unwritten_pair.specs.Pair.{behind_of, own_of}
use Rattle.journaled_file.specs.ViewedLaws.{same_journal}
use Rattle.journaled_file.proofs.looking.slots_of.Goals as goal

pub returns-clause-journal : goal.returns-clause-journal
returns-clause-journal g c = λ h.
    let p = g.P.DevicePair in
    let was : Blocks = p.journal c.args.pair in let now : Blocks = p.journal c.heads_of-2.new.pair in
    let held = c.in_ok-held.held in let pair = c.into_pair-pair.result in
    let h1 : p.honest c.heads_of.new.pair = c.heads_of.ensures.honest.0 h in
    let h2 = c.in_ok-unwritten.ensures.honest h1 in
    let h3 : p.honest held.pair = c.in_ok-held.ensures.honest.0 h2 in
    let h4 : p.honest pair = subst p.honest (sym c.into_pair-pair.ensures) h3 in
    let first : p.journal c.heads_of.new.pair ≡ was = (c.heads_of.ensures.quiet h).journal in
    let taken = c.in_ok-unwritten.ensures.journal h1 ∙ first in
    let last : now ≡ p.journal pair = (c.heads_of-2.ensures.quiet h4).journal in
    let own : own_of held ≡ now = sym (last ∙ ap p.journal c.into_pair-pair.ensures) in
    let begins : take (length (untitled was)) (untitled (now ++ behind_of held)) ≡ untitled was =
    ap (λ (b : Blocks). take (length (untitled was)) (untitled (b ++ behind_of held))) (sym own)
    ∙ subst (λ (b : Blocks). take (length (untitled b)) (untitled (own_of held ++ behind_of held)) ≡ untitled b) taken
    (c.in_ok-held.ensures.begins h2) in
    let two : 2 ≤ length was = c.in_ok-title.ensures.room h in
    let size : length now ≡ length was = omega (
      arith,
      ap length last,
      ap length first,
      c.if-journal_blocks-blocks.false,
      c.journal_blocks.ensures.is,
      c.journal_blocks-blocks.ensures.is,
    ) in
    let title_same : c.in_ok-title.title ≡ c.in_ok-same_title.same_title = c.are_same.ensures c.if-not-are_same.false in
    let end_same : c.in_ok-title.end ≡ c.in_ok-same_title.same_end = c.are_same-2.ensures c.if-not-are_same-2.false in
    let title : block_at 0 now ≡ block_at 0 was =
    ap (block_at 0) last ∙ sym (c.in_ok-same_title.ensures.title h4) ∙ sym title_same
    ∙ c.in_ok-title.ensures.title h in
    let end : block_at 1 now ≡ block_at 1 was =
    ap (block_at 1) last ∙ sym (c.in_ok-same_title.ensures.end h4) ∙ sym end_same
    ∙ c.in_ok-title.ensures.end h in
    same_journal was now (behind_of held) size two title end begins
