-- A flag is read as its text says.
use Rattle.std.proofs.Common.{codes}
use Rattle.clap.specs.Words.{found_of, one_text}
use Rattle.program_words.proofs.WordsLemmas.{flag_read}
use Rattle.program_words.proofs.words.options_in.Goals as goal

pub returns : goal.returns
returns c =
    let told = one_text (found_of c.args.matches.now) in
    let flag = c.get_flag.ensures in
    let read_only = c.get_flag-2.ensures in
    let strict = c.get_flag-3.ensures in
    let stats = c.get_flag-4.ensures in
    let json = c.get_flag-5.ensures in
    let geojson = c.get_flag-6.ensures in
    record {
      cache = c.limits_in.ensures.cache;
      newest = c.limits_in.ensures.newest;
      create = flag_read _ (told (codes "create")) flag.value flag.other;
      read_only = flag_read _ (told (codes "read-only")) read_only.value read_only.other;
      strict = flag_read _ (told (codes "strict")) strict.value strict.other;
      draw = c.get_str.ensures;
      stats = flag_read _ (told (codes "stats")) stats.value stats.other;
      json = flag_read _ (told (codes "json")) json.value json.other;
      layer = c.get_str-2.ensures;
      columns = c.get_str-3.ensures;
      scale = c.get_str-4.ensures;
      axes = c.get_str-5.ensures;
      geojson = flag_read _ (told (codes "geojson")) geojson.value geojson.other;
      file = c.get_str-6.ensures;
    }
