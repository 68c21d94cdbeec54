-- The goals of `gather` that are proved by hand.
use Rattle.std.proofs.Common.{◌≡◌, ◌∙◌, ℕ, ◌+◌, List, [], ◌∷◌, ◌++◌, length, length-append, true, false, ap}
use Rattle.std.proofs.Common.{refl, subst, sym, arith}
use Rattle.std.proofs.KnownBytes.{Keeps-refl, Keeps-trans}
use Rattle.command_shell.specs.Gathering.{IsGathered}
use Rattle.command_language.specs.Lines.{IsWhole, lines_of}
use Rattle.command_language.specs.Pending.{pending}
use Rattle.command_language.specs.Reading.{Reads}
use Rattle.command_language.proofs.TextLemmas.{append_none, lines_of-whole}
use Rattle.command_language.proofs.ReadLemmas.{reads_more, reads_none}
use Rattle.command_shell.proofs.loading.gather.Goals as goal

-- a line after whole lines
lines_more : (text more line : List ℕ) → IsWhole text → lines_of more ≡ line ∷ []
    → lines_of (text ++ more) ≡ lines_of text ++ line ∷ []
lines_more text more line whole is = lines_of-whole text more whole ∙ ap (λ ls. lines_of text ++ ls) is

one_more : (count : ℕ) (text more line : List ℕ) → IsWhole text → lines_of more ≡ line ∷ []
    → length (lines_of text) ≡ count → length (lines_of (text ++ more)) ≡ count + 1
one_more count text more line whole is before = ap length (lines_more text more line whole is)
    ∙ (let both = length-append (lines_of text) (line ∷ []) in omega (arith, both, before))

-- the place of the next line
place_of : (lines : List (List ℕ)) (taken : ℕ) → length lines ≡ taken → taken + 1 ≡ length lines + 1
place_of lines taken is = omega (arith, is)

pub loop-taken-init : goal.loop-taken-init
loop-taken-init g c = record {
  takes = record {
    text = [];
    reads = reads_none (g.R.Read.remaining c.args.input.now) (pending c.args.lines.now);
    count_is = refl;
    gathers = λ layer h. h;
  };
  kept = Keeps-refl (g.W.Write.contents c.args.output.now);
  fewer = omega arith;
  counted = λ before. before;
}

pub returns-in-Err-clause-gathers : goal.returns-in-Err-clause-gathers
returns-in-Err-clause-gathers g c =
    let r0 = g.R.Read.remaining c.args.input.now in
    let r1 = g.R.Read.remaining c.loop-taken.input in
    let r2 = g.R.Read.remaining c.take_entry.new.input in
    let p0 = pending c.args.lines.now in
    let t = c.loop-taken.invariant.takes in
    let n = c.in-Err.ensures.takes in record {
      entries = t.text;
      unread = n.unread;
      reads = subst (Reads false r0 r2 p0 n.unread) (append_none t.text)
          (reads_more false r0 r1 r2 p0 (pending c.loop-taken.lines) n.unread t.text [] t.reads n.reads);
      few = omega (arith, t.count_is, c.loop-taken-test.true);
      one_line = n.one_line;
    }

pub returns-then-taken-count-clause-gathers : goal.returns-then-taken-count-clause-gathers
returns-then-taken-count-clause-gathers g c =
    let r0 = g.R.Read.remaining c.args.input.now in
    let r1 = g.R.Read.remaining c.loop-taken.input in
    let r2 = g.R.Read.remaining c.take_entry.new.input in
    let p0 = pending c.args.lines.now in
    let t = c.loop-taken.invariant.takes in
    let l = rw c.in-Ok-Last.field-0-is at c.in-Ok-Last.ensures.takes in record {
      text = t.text ++ l.text;
      reads = reads_more true r0 r1 r2 p0 (pending c.loop-taken.lines) _ t.text l.text t.reads l.reads;
      few = let count =
          one_more c.loop-taken.taken t.text l.text l.line t.reads.stops l.is_line t.count_is in
          omega (arith, count);
      gathers =
          λ layer h. subst (IsGathered c.take_entry.new.gathered layer)
          (sym (lines_more t.text l.text l.line t.reads.stops l.is_line))
          (l.gathers layer (lines_of t.text) (t.gathers layer h) (place_of _ _ t.count_is));
    }

pub returns-in-Ok-Last-clause-gathers : goal.returns-in-Ok-Last-clause-gathers
returns-in-Ok-Last-clause-gathers g c =
    let r0 = g.R.Read.remaining c.args.input.now in
    let r1 = g.R.Read.remaining c.loop-taken.input in
    let r2 = g.R.Read.remaining c.take_entry.new.input in
    let p0 = pending c.args.lines.now in
    let t = c.loop-taken.invariant.takes in
    let l = rw c.in-Ok-Last.field-0-is at c.in-Ok-Last.ensures.takes in record {
      text = t.text ++ l.text;
      reads = reads_more true r0 r1 r2 p0 (pending c.loop-taken.lines) _ t.text l.text t.reads l.reads;
      count_is = let count =
          one_more c.loop-taken.taken t.text l.text l.line t.reads.stops l.is_line t.count_is in
          omega (arith, count);
      gathers =
          λ layer h. subst (IsGathered c.take_entry.new.gathered layer)
          (sym (lines_more t.text l.text l.line t.reads.stops l.is_line))
          (l.gathers layer (lines_of t.text) (t.gathers layer h) (place_of _ _ t.count_is));
    }

pub returns-in-Ok-End-clause-gathers : goal.returns-in-Ok-End-clause-gathers
returns-in-Ok-End-clause-gathers g c =
    let r0 = g.R.Read.remaining c.args.input.now in
    let r1 = g.R.Read.remaining c.loop-taken.input in
    let r2 = g.R.Read.remaining c.take_entry.new.input in
    let p0 = pending c.args.lines.now in
    let t = c.loop-taken.invariant.takes in
    let e = rw c.in-Ok-End.field-0-is at c.in-Ok-End.ensures.takes in record {
      text = t.text;
      reads = subst (Reads true r0 r2 p0 _) (append_none t.text)
          (reads_more true r0 r1 r2 p0 (pending c.loop-taken.lines) _ t.text [] t.reads e.1);
      few = omega (arith, t.count_is, c.loop-taken-test.true);
      gathers =
          λ layer h. subst (λ x. IsGathered x layer (lines_of t.text)) (sym e.0) (t.gathers layer h);
    }

pub loop-taken-preserved : goal.loop-taken-preserved
loop-taken-preserved g c =
    let r0 = g.R.Read.remaining c.args.input.now in
    let r1 = g.R.Read.remaining c.loop-taken.input in
    let r2 = g.R.Read.remaining c.take_entry.new.input in
    let p0 = pending c.args.lines.now in
    let t = c.loop-taken.invariant.takes in
    let l = rw c.in-Ok-Line.field-0-is at c.in-Ok-Line.ensures.takes in record {
      takes = record {
        text = t.text ++ l.text;
        reads = reads_more false r0 r1 r2 p0 (pending c.loop-taken.lines) _ t.text l.text t.reads l.reads;
        count_is = one_more c.loop-taken.taken t.text l.text l.line t.reads.stops l.is_line t.count_is;
        gathers =
            λ layer h. subst (IsGathered c.take_entry.new.gathered layer)
            (sym (lines_more t.text l.text l.line t.reads.stops l.is_line))
            (l.gathers layer (lines_of t.text) (t.gathers layer h) (place_of _ _ t.count_is));
      };
      kept = Keeps-trans _ _ _ c.loop-taken.invariant.kept c.in-Ok-Line.ensures.kept;
      fewer = omega (arith, c.loop-taken.invariant.fewer, c.in-Ok-Line.ensures.fewer);
      counted = λ before. c.in-Ok-Line.ensures.counted (c.loop-taken.invariant.counted before);
    }
