-- What holds at each turn of the loop of `push_run`.
use Rattle.std.proofs.Common.{◌≡◌, ◌<◌, Some, take}
use Rattle.block_bytes.specs.Numbers.{number_at}
use Rattle.bucket_page.specs.Layout.{BucketContent, bucket_at}
use Rattle.id_chains.specs.Pages.{with_more}
use Rattle.id_chains.specs.Tidy.{IsTidyPage}
use Rattle.id_chains.proofs.ManyLemmas.{AreOfClass}
use Rattle.id_chains.proofs.adding.push_run.Given as goal

-- the objects so far are of the chain, and added
abbrev pub invariant-loop-object : goal.invariant-loop-object
invariant-loop-object g l = record {
  counted : l.count ≡ l.object-index;
  room : l.count ≡ 0 → number_at 2 2 l.page < 100;
  placed : AreOfClass l.class (take l.count l.objects);
  pushed : (c : BucketContent) → bucket_at g.row.D l.initial.page ≡ Some c
      → bucket_at g.row.D l.page ≡ Some (with_more c (take l.count l.objects));
  tidy : (c : BucketContent) → bucket_at g.row.D l.initial.page ≡ Some c
      → IsTidyPage g.row.D l.initial.page → IsTidyPage g.row.D l.page;
}
