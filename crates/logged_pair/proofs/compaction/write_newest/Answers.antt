-- What was added in turn is one region.
use Rattle.std.proofs.Common.{◌≡◌, ◌∙◌, ℕ, List, [], ◌∷◌, ◌++◌, ap, arith, drop, length, subst, sym}
use Rattle.std.proofs.lemmas.List.{length-append}
use Rattle.std.proofs.Math.Seq.{drop-append_seam}
use Rattle.block_device.specs.Device.{Blocks}
use Rattle.committed_log.specs.FlagLaws.{says-one}
use Rattle.committed_log.specs.Log.{count_block, flag_block, index_blocks, recovered}
use Rattle.committed_log.specs.Room.{blocks_of}
use Rattle.logged_pair.specs.Compaction.{AreIndex, AreNewest}
use Rattle.logged_pair.proofs.Newest.{joined, log_of, read_made}
use Rattle.logged_pair.proofs.Stood.{on_ok}
use Rattle.logged_pair.proofs.compaction.write_newest.Given as given
use Rattle.logged_pair.proofs.compaction.write_newest.Goals as goal
use Rattle.logged_pair.proofs.compaction.write_newest.Goals.{After-put_end}

-- the blocks that were added
slots_added : (g : given.Over) (c : After-put_end g) → g.P.DevicePair.honest c.args.pair.now → Blocks
slots_added g c h =
    (c.in_ok-put_slots.ensures.added (c.put_head.ensures.honest.0 h)).0

index_added : (g : given.Over) (c : After-put_end g) → g.P.DevicePair.honest c.args.pair.now → Blocks
index_added g c h =
    (c.in_ok-put_index.ensures.added (c.put_slots.ensures.honest.0 (c.put_head.ensures.honest.0 h))).0

added : (g : given.Over) (c : After-put_end g) → g.P.DevicePair.honest c.args.pair.now → List ℕ → Blocks
added g c h count = log_of (length c.in_ok-homes.homes.items) (slots_added g c h) (index_added g c h) count

is_added : (g : given.Over) (c : After-put_end g) → (h : g.P.DevicePair.honest c.args.pair.now) → (count : List ℕ)
    → g.P.DevicePair.journal c.put_end.new.pair
    ≡ g.P.DevicePair.journal c.put_index.new.pair ++ flag_block 0 ∷ count ∷ []
    → g.P.DevicePair.journal c.put_end.new.pair ≡ g.P.DevicePair.journal c.args.pair.now ++ added g c h count
unfolding added slots_added index_added
is_added g c h count is =
    let p = g.P.DevicePair in
    let h1 = c.put_head.ensures.honest.0 h in let h2 = c.put_slots.ensures.honest.0 h1 in
    joined (p.journal c.args.pair.now) (p.journal c.put_head.new.pair) (p.journal c.put_slots.new.pair)
    (p.journal c.put_index.new.pair) (p.journal c.put_end.new.pair)
    (flag_block 1 ∷ count_block (length c.in_ok-homes.homes.items) ∷ [])
    (slots_added g c h) (index_added g c h) (flag_block 0 ∷ count ∷ [])
    (c.in_ok-put_head.ensures.added h
    ∙ ap (λ (n : ℕ). p.journal c.args.pair.now ++ flag_block 1 ∷ count_block n ∷ [])
    (omega (arith, c.len.ensures, c.in_ok-homes.homes.ok)))
    (c.in_ok-put_slots.ensures.added h1).1 (c.in_ok-put_index.ensures.added h2).1 is

pub returns-clause-read : goal.returns-clause-read
unfolding added slots_added index_added
returns-clause-read g c = λ jh h.
    let p = g.P.DevicePair in let j = g.J.BlockDevice in
    let at = (goal.at.returns-clause-read g c).After-put_end in
    let h1 = c.put_head.ensures.honest.0 h in let h2 = c.put_slots.ensures.honest.0 h1 in
    let h3 = c.put_index.ensures.honest.0 h2 in
    let start : Blocks = p.journal c.args.pair.now in
    let homes = c.in_ok-homes.homes.items in
    let slots = c.in_ok-put_slots.ensures.added h1 in
    let index = c.in_ok-put_index.ensures.added h2 in
    on_ok c.put_end.result _ _
    (λ end (a : Blocks) (size : length a ≡ length (p.base c.args.pair.now)).
    ap (recovered a)
    (ap (drop (length start)) (is_added g at h end.0 end.1) ∙ drop-append_seam start (added g at h end.0))
    ∙ read_made (blocks_of c.args.slots.now) (drop (length start) (j.shown c.args.from.now)) homes slots.0 index.0
    end.0 c.base_blocks.result a c.in_ok-homes.ensures
    (subst (λ (hs : List ℕ). AreNewest (blocks_of c.args.slots.now) (drop (length start) (j.shown c.args.from.now)) hs
    (length hs) slots.0) c.deref.ensures.value
    (subst (λ (n : ℕ). AreNewest (blocks_of c.args.slots.now) (drop n (j.shown c.args.from.now)) c.deref.result.now
    (length c.deref.result.now) slots.0) c.journal_blocks-front.ensures.is (slots.2 jh)))
    (subst (λ (hs : List ℕ). AreIndex hs (index_blocks (length hs)) index.0) c.deref-2.ensures.value index.2)
    (omega (arith, c.in_ok-put_head.ensures.small, c.len.ensures, c.in_ok-homes.homes.ok)) c.base_blocks.ensures.few
    (size ∙ sym c.base_blocks.ensures.is))
    (c.put_end.ensures.added h3)

pub returns-clause-begins : goal.returns-clause-begins
unfolding added
returns-clause-begins g c = λ h.
    let at = (goal.at.returns-clause-begins g c).After-put_end in
    let h3 = c.put_index.ensures.honest.0 (c.put_slots.ensures.honest.0 (c.put_head.ensures.honest.0 h)) in
    on_ok c.put_end.result _ _
    (λ end. (
      added g at h end.0,
      is_added g at h end.0 end.1,
      says-one,
      omega (
        arith,
        length-append (slots_added g at h) (index_added g at h ++ flag_block 0 ∷ end.0 ∷ []),
        length-append (index_added g at h) (flag_block 0 ∷ end.0 ∷ []),
      ),
    ))
    (c.put_end.ensures.added h3)
