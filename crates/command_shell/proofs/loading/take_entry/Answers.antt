-- The goals of `take_entry` that are proved by hand.
use Rattle.std.proofs.Common.{◌∙◌, ℕ, List, [], ◌∷◌, ◌++◌, take, subst}
use Rattle.std.specs.Io.KnownBytes.{IsAtEnd}
use Rattle.command_shell.specs.Gathering.{IsGathered}
use Rattle.command_language.specs.Lines.{newline}
use Rattle.command_language.specs.Pending.{pending}
use Rattle.command_language.proofs.TextLemmas.{lines_of-line}
use Rattle.command_shell.proofs.GatherLemmas.{long_entry, spoiled}
use Rattle.command_language.proofs.ReadLemmas.{begun_read, last_front, last_left, last_line, last_read}
use Rattle.command_language.proofs.ReadLemmas.{line_read, long_last_line, long_last_read, long_read, one_line}
use Rattle.command_language.proofs.ReadLemmas.{reads_none}
use Rattle.command_shell.proofs.loading.take_entry.Goals as goal

pub returns-in_default-clause-takes : goal.returns-in_default-clause-takes
returns-in_default-clause-takes g c =
    let unread = pending c.args.lines.now in record {
      unread = unread;
      one_line = c.in_default.ensures.none;
      reads = reads_none (g.R.Read.remaining c.args.input.now) unread;
    }

pub returns-in-Ok-Line-clause-takes : goal.returns-in-Ok-Line-clause-takes
returns-in-Ok-Line-clause-takes g c =
    let r = g.R.Read.remaining c.args.input.now in
    let r' = g.R.Read.remaining c.find.new.reader in
    let mid = pending c.find.new.self in
    let bytes = pending c.args.lines.now in
    let n = c.in-Ok-Line.len in
    let at_end = IsAtEnd r' in
    let found = rw c.in-Ok-Line.field-0-is at c.in-Ok-Line.ensures.found in record {
      text = take n mid ++ newline ∷ [];
      line = take n mid;
      reads = line_read r r' bytes mid (pending c.take.new.self) n at_end found c.take.ensures.pending;
      is_line = lines_of-line (take n mid) (one_line r r' bytes mid (pending c.take.new.self) n at_end found);
      gathers =
          λ layer lines h at. subst (λ (l : List ℕ). IsGathered c.add.new.self layer (lines ++ l ∷ []))
          c.front.ensures (c.add.ensures layer lines h at);
    }

pub returns-in-Ok-Last-clause-takes : goal.returns-in-Ok-Last-clause-takes
returns-in-Ok-Last-clause-takes g c =
    let r = g.R.Read.remaining c.args.input.now in
    let r' = g.R.Read.remaining c.find.new.reader in
    let mid = pending c.find.new.self in
    let bytes = pending c.args.lines.now in
    let left = pending c.take-in-Ok-Last.new.self in
    let n = c.in-Ok-Last.len in
    let at_end = IsAtEnd r' in
    let found = rw c.in-Ok-Last.field-0-is at c.in-Ok-Last.ensures.found in record {
      text = mid;
      line = mid;
      reads = last_read r r' bytes mid left n found
          (c.take-in-Ok-Last.ensures.pending ∙ last_left r r' bytes mid n at_end found);
      is_line = last_line r r' bytes mid n at_end found;
      gathers =
          λ layer lines h at. subst
          (λ (l : List ℕ). IsGathered c.add-in-Ok-Last.new.self layer (lines ++ l ∷ []))
          (c.front-in-Ok-Last.ensures ∙ last_front r r' bytes mid n at_end found)
          (c.add-in-Ok-Last.ensures layer lines h at);
    }

pub returns-in-Ok-TooLong-clause-takes : goal.returns-in-Ok-TooLong-clause-takes
returns-in-Ok-TooLong-clause-takes g c =
    let r = g.R.Read.remaining c.args.input.now in
    let r' = g.R.Read.remaining c.find.new.reader in
    let left = pending c.find.new.self in
    let bytes = pending c.args.lines.now in
    let found = rw c.in-Ok-TooLong.field-0-is at c.in-Ok-TooLong.ensures.found in record {
      text = found.so.0 ++ newline ∷ [];
      line = found.so.0;
      reads = long_read r r' bytes left (IsAtEnd r') found;
      is_line = lines_of-line found.so.0 found.so.2;
      gathers =
          λ layer lines h at. spoiled c.args.gathered.now.bad_entry c.spoil.new.self.bad_entry c.args.place
          c.spoil.new.self.room c.spoil.new.self.layer.items layer c.spoil.new.self.objects.items lines
          found.so.0 c.spoil.ensures h.0 at (long_entry found.so.0 found.so.1);
    }

pub returns-in-Ok-LastTooLong-clause-takes : goal.returns-in-Ok-LastTooLong-clause-takes
returns-in-Ok-LastTooLong-clause-takes g c =
    let r = g.R.Read.remaining c.args.input.now in
    let r' = g.R.Read.remaining c.find.new.reader in
    let left = pending c.find.new.self in
    let bytes = pending c.args.lines.now in
    let found = rw c.in-Ok-LastTooLong.field-0-is at c.in-Ok-LastTooLong.ensures.found in
    let line = bytes ++ found.more in record {
      text = line;
      line = line;
      reads = long_last_read r r' bytes left found;
      is_line = long_last_line line found.so.0 found.so.1;
      gathers =
          λ layer lines h at. spoiled c.args.gathered.now.bad_entry
          c.spoil-in-Ok-LastTooLong.new.self.bad_entry c.args.place c.spoil-in-Ok-LastTooLong.new.self.room
          c.spoil-in-Ok-LastTooLong.new.self.layer.items layer
          c.spoil-in-Ok-LastTooLong.new.self.objects.items lines line c.spoil-in-Ok-LastTooLong.ensures h.0 at
          (long_entry line found.so.0);
    }

pub returns-in-Err-clause-takes : goal.returns-in-Err-clause-takes
returns-in-Err-clause-takes g c =
    let bytes = pending c.args.lines.now in record {
      unread = bytes ++ c.in-Err.ensures.found.more;
      one_line = c.in-Err.ensures.found.so;
      reads = begun_read (g.R.Read.remaining c.args.input.now) (g.R.Read.remaining c.find.new.reader) bytes
          c.in-Err.ensures.found;
    }
