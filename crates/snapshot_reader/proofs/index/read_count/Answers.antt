-- The flag and the count of a region.
use Rattle.std.proofs.Common.{◌≡◌, ◌∙◌, ap, arith, drop, rules, sym, true}
use Rattle.std.proofs.lemmas.List.{length-drop}
use Rattle.block_device.specs.Device.{block_at}
use Rattle.block_bytes.specs.Numbers.{number_at}
use Rattle.committed_log.specs.Log.{count_in, says}
use Rattle.snapshot_reader.proofs.Reading.{counted, region_size, unsaid_end}
use Rattle.snapshot_reader.proofs.index.read_count.Goals as goal

pub returns-then-behind-eq0-clause-none : goal.returns-then-behind-eq0-clause-none
returns-then-behind-eq0-clause-none g c = λ h e.
    unsaid_end c.args.start (g.J.BlockReader.shown c.args.journal.now)
    (omega (arith, c.if-behind-eq0.true, c.blocks-2.ensures.is))

pub returns-then-region_blocks-behind-clause-malformed :
    goal.returns-then-region_blocks-behind-clause-malformed
returns-then-region_blocks-behind-clause-malformed g c = λ h e.
    let b = g.J.BlockReader.shown c.args.journal.now in let s = c.args.start in
    let n = c.read_u32-n.result in
    let count : n ≡ count_in (drop s b) =
    counted n (drop s b) (c.read_u32-n.ensures ∙ ap (number_at 4 8) (c.in_ok-read_behind-2.ensures h)) in
    let said : says (block_at 0 (drop s b)) ≡ true =
    ap says (sym (c.in_ok-read_behind.ensures h)) ∙ sym c.says_committed.ensures ∙ c.if-not-says_committed.false in (
      said,
      omega (
        arith,
        c.if-region_blocks-behind.true,
        c.region_blocks.ensures,
        c.blocks-2.ensures.is,
        length-drop s b,
        region_size n (drop s b) count,
      ),
    )

pub returns-clause-count : goal.returns-clause-count
returns-clause-count g c = λ h n e.
    let b = g.J.BlockReader.shown c.args.journal.now in
    let is : n ≡ c.read_u32-n.result = search rules in
    counted n (drop c.args.start b)
    (is ∙ c.read_u32-n.ensures ∙ ap (number_at 4 8) (c.in_ok-read_behind-2.ensures h))
