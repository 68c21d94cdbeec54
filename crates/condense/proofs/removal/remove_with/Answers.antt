-- The goals of `remove_with` that are proved by hand.
use Rattle.std.proofs.Common.{rules, ◌≡◌, ◌∙◌, Some, IfSome, map, inl}
use Rattle.std.proofs.Common.{inr, refl, sym, ap, arith, [], ⊎_elim, false, subst, true}
use Rattle.std.specs.Prelude.{◌⊎◌}
use Rattle.page_file.specs.declared.fault.Fault.TheVariants.{Damaged}
use Rattle.page_cache.specs.Cache.{IsLive, IsPageMap, given, pages, touched_of}
use Rattle.page_cache.specs.Calls.{asks_changes, changes_and_refuses, changes_in_turn, fault_in}
use Rattle.page_cache.specs.Calls.{no_call_changes}
use Rattle.tree_node.specs.Nodes.{content_of}
use Rattle.tree_node.specs.Trees.{Tree}
use Rattle.node_page.specs.Faults.{IsChangeFault, IsNoDamage, NamesInRange}
use Rattle.node_page.specs.Standing.{Stands}
use Rattle.node_page.proofs.DamageLemmas.{comes_in_range, damaged_read}
use Rattle.node_page.proofs.NodeLemmas.{at_error, if_error}
use Rattle.node_page.proofs.StandingLemmas.{page_of_node}
use Rattle.reinsert.proofs.FaultLemmas.{at_none, no_answer}
use Rattle.reinsert.proofs.FaultLemmas.{damaged_asks, one_more}
use Rattle.condense.specs.Becoming.{HasBecome, IsFewInHand, StaysAbove}
use Rattle.condense.specs.Taken.{IsCut, held_now, orphan_held, tree_at}
use Rattle.condense.proofs.BecomeLemmas.{cut_in_hand, in_hand, in_page}
use Rattle.condense.proofs.FreeLemmas.{stands_there}
use Rattle.condense.proofs.LeadLemmas.{leads_there, takes_contained}
use Rattle.condense.proofs.RemoveLemmas.{keeps_all, never_some, refused_so, took_out}
use Rattle.condense.proofs.removal.remove_with.Goals as goal

pub returns-in_err-became : goal.returns-in_err-became
returns-in_err-became g c =
    let old = c.args.cache.now in
    let low = c.take_out.new.cache in
    let root = c.args.root in
    let f = c.in_err-became.field-0.0 in
    let r = c.from_residual.result in
    let is = c.from_residual.ensures.1 in
    let err = c.in_err-became.ensures in
    record {
      changes = changes_and_refuses old old low f r is (no_call_changes old) err.changes;
      grows = search rules;
      root = no_answer r f _ is;
      removed = λ h t elsewhere can. no_answer r f _ is;
      shape = λ h t elsewhere can shape boxes. no_answer r f _ is;
      absent = λ h t elsewhere can lacks.
          let stands = stands_there g.row.D (pages old) root t can.at can.stands in (
            err.absent h t.row stands lacks,
            refused_so r f _ is
                (inl (err.faults h t.row stands)),
          );
      faults = λ h t elsewhere can shape boxes has.
          let stands = stands_there g.row.D (pages old) root t can.at can.stands in
          at_error r f (IsNoDamage low) is (inl (err.faults h t.row stands));
      damage = λ h none.
          at_error r f _ is
          (err.damage h);
      number = λ h.
          at_error r f NamesInRange is
          (λ n damaged. comes_in_range g.row.D (given old) root.page n c.requires.root.page
          (err.damage h n damaged));
      other_faults = at_error r f (IsChangeFault low) is (one_more _ _ _ err.other_faults);
    }

pub returns-in_default : goal.returns-in_default
returns-in_default g c =
    let old = c.args.cache.now in
    let low = c.take_out.new.cache in
    let page = c.args.root.page in
    let ok = c.in_ok-became.ensures in
    let none = at_none c.in_ok-became.field-0 _ ok.none c.in_default.not-Some in
    record {
      changes = asks_changes old low (Some (Damaged page)) (damaged_asks old low page none.0);
      grows = search rules;
      root = tt;
      removed = λ h t elsewhere can. tt;
      shape = λ h t elsewhere can shape boxes. tt;
      absent = λ h t elsewhere can lacks. (none.0.touched, inr refl);
      faults = λ h t elsewhere can shape boxes has.
          let stands = stands_there g.row.D (pages old) c.args.root t can.at can.stands in
          absurd (never_some c.in_ok-became.field-0 c.in_default.not-Some
          (ok.found h t.row stands
          (leads_there g.row.D c.args.fanout.most c.args.object.now.reference
          (c.args.object.now.bounds, c.args.object.now.tag) t.row shape.below has)));
      damage = λ h none n damaged. ([], damaged_read (Damaged page) page n (inr refl) damaged);
      number = λ h n damaged.
          comes_in_range g.row.D (given old) page n c.requires.root.page
          ([], damaged_read (Damaged page) page n (inr refl) damaged);
      other_faults = search rules;
    }

pub put_root-requires : goal.put_root-requires
put_root-requires g c =
    let became = c.in-Some.became in
    let hand = c.take_out.new.hand in
    let few : IsFewInHand c.args.fanout.most c.args.root.level hand became =
    subst (λ o. IfSome o (IsFewInHand c.args.fanout.most c.args.root.level hand)) c.in-Some.is
    c.in_ok-became.ensures.cut in
    let cut : c.is_written-hand.result ≡ false → IsCut c.args.root.level (content_of hand) = λ unwritten.
    cut_in_hand c.args.fanout.most c.args.root.level hand became few
    (sym c.is_written-hand.ensures ∙ unwritten) in (
      search rules,
      (search rules, (search rules, (c.requires.root, cut))),
    )

pub returns : goal.returns
returns g c =
    let D = g.row.D in
    let old = c.args.cache.now in
    let low = c.take_out.new.cache in
    let new = c.put_root.new.cache in
    let root = c.args.root in
    let page = root.page in
    let most = c.args.fanout.most in
    let became = c.in-Some.became in
    let hand = c.take_out.new.hand in
    let ok = c.in_ok-became.ensures in
    let put = c.put_root.ensures in
    let sound : IsPageMap old → IsPageMap low =
    λ h. subst (λ o. IfSome o (λ _. IsPageMap low)) c.in-Some.is (ok.sound h) in
    let stays : IsPageMap old → StaysAbove most root (pages old) (pages low) became =
    λ h. subst (λ o. IfSome o (StaysAbove most root (pages old) (pages low))) c.in-Some.is (ok.stays h) in
    let live : IsPageMap old → IsLive low page =
    λ h. page_of_node D (pages low page) (stays h).still.node (stays h).still.there in
    let done : (h : IsPageMap old) (t : Tree) → Stands D (pages old) (tree_at root t.row)
    → HasBecome most (pages old) (pages low) root c.args.object.now.reference
    (c.args.object.now.bounds, c.args.object.now.tag) t.row (held_now c.begin.new.self)
    (held_now c.take_out.new.kept) hand became = λ h t stands.
    subst (λ o. IfSome o (HasBecome most (pages old) (pages low) root c.args.object.now.reference
    (c.args.object.now.bounds, c.args.object.now.tag) t.row (held_now c.begin.new.self)
    (held_now c.take_out.new.kept) hand)) c.in-Some.is (ok.taken h t.row stands) in
    record {
      changes = changes_in_turn old low new (fault_in c.put_root.result) ok.changes put.changes;
      grows = search rules;
      root = put.root;
      removed = λ h t elsewhere can.
          let d = done h t (stands_there D (pages old) root t can.at can.stands) in
          let took =
          took_out D most (pages old) d.between root t elsewhere c.args.object.now.reference
          (c.args.object.now.bounds, c.args.object.now.tag) (held_now c.begin.new.self)
          (held_now c.take_out.new.kept) d.items can (ap (map (orphan_held {D = D})) c.begin.ensures) d.taken
          in
          put.removed (sound h) (live h) (pages old) d.between t elsewhere c.args.object.now.reference
          (c.args.object.now.bounds, c.args.object.now.tag) d.items took d.others (
            λ settled. in_page most (pages low page) root.level d.items hand became d.now
                (sym c.is_written-hand.ensures ∙ settled),
            λ unwritten. in_hand most (pages low page) root.level d.items hand became d.now
                (sym c.is_written-hand.ensures ∙ unwritten),
          );
      shape = λ h t elsewhere can shape boxes.
          let d = done h t (stands_there D (pages old) root t can.at can.stands) in
          let took =
          took_out D most (pages old) d.between root t elsewhere c.args.object.now.reference
          (c.args.object.now.bounds, c.args.object.now.tag) (held_now c.begin.new.self)
          (held_now c.take_out.new.kept) d.items can (ap (map (orphan_held {D = D})) c.begin.ensures) d.taken
          in
          keeps_all c.put_root.result (IsPageMap new) D most (pages old) (pages new) elsewhere
          c.args.object.now.reference (c.args.object.now.bounds, c.args.object.now.tag) t
          (omega (arith, c.args.fanout.within)) shape boxes
          (put.removed (sound h) (live h) (pages old) d.between t elsewhere c.args.object.now.reference
          (c.args.object.now.bounds, c.args.object.now.tag) d.items took d.others (
            λ settled. in_page most (pages low page) root.level d.items hand became d.now
                (sym c.is_written-hand.ensures ∙ settled),
            λ unwritten. in_hand most (pages low page) root.level d.items hand became d.now
                (sym c.is_written-hand.ensures ∙ unwritten),
          ));
      absent = λ h t elsewhere can lacks.
          let d = done h t (stands_there D (pages old) root t can.at can.stands) in
          absurd (lacks
          (takes_contained D most c.args.object.now.reference
          (c.args.object.now.bounds, c.args.object.now.tag) root.level t.row d.taken.out d.taken.takes_out));
      faults = λ h t elsewhere can shape boxes has.
          let d = done h t (stands_there D (pages old) root t can.at can.stands) in
          let took =
          took_out D most (pages old) d.between root t elsewhere c.args.object.now.reference
          (c.args.object.now.bounds, c.args.object.now.tag) (held_now c.begin.new.self)
          (held_now c.take_out.new.kept) d.items can (ap (map (orphan_held {D = D})) c.begin.ensures) d.taken
          in
          put.faults (sound h) (live h) (pages old) d.between t elsewhere c.args.object.now.reference
          (c.args.object.now.bounds, c.args.object.now.tag) d.items took d.others (
            λ settled. in_page most (pages low page) root.level d.items hand became d.now
                (sym c.is_written-hand.ensures ∙ settled),
            λ unwritten. in_hand most (pages low page) root.level d.items hand became d.now
                (sym c.is_written-hand.ensures ∙ unwritten),
          ) shape boxes;
      damage = λ h none.
          let either =
          subst (λ o. IfSome o (λ _. (c.take_out.new.kept.list.items ≡ c.begin.new.self.list.items)
          ⊎ (touched_of low ≡ true))) c.in-Some.is (ok.touched h) in
          let kept = ⊎_elim
          (λ (same : c.take_out.new.kept.list.items ≡ c.begin.new.self.list.items).
          inl (same ∙ c.begin.ensures))
          (λ (touched : touched_of low ≡ true). inr touched)
          either in
          if_error c.put_root.result _ _
          (λ f is n damaged. ([], damaged_read f page n is damaged))
          (put.damage (sound h) (live h) kept none);
      number = λ h. put.number (sound h) (live h);
      other_faults = put.other_faults;
    }
