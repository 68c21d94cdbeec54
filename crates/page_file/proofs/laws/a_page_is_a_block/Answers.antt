-- What an honest device shows are blocks, and each page is one of them.
use Rattle.page_file.specs.File.{blocks_of, device_of}
use Rattle.page_file.specs.Laws.{a_given_page_is_a_block, a_live_page_is_a_block}
use Rattle.page_file.proofs.laws.a_page_is_a_block.Goals as goal

pub returns-clause-given : goal.returns-clause-given
returns-clause-given g c = λ file n page h e. let d = g.met.D.BlockDevice in
    a_given_page_is_a_block file n page h
    (d.whole (device_of file) (blocks_of file) h (d.shown_counts (device_of file) h)) e

pub returns-clause-live : goal.returns-clause-live
returns-clause-live g c = λ file n page h e. let d = g.met.D.BlockDevice in
    a_live_page_is_a_block file n page h
    (d.whole (device_of file) (blocks_of file) h (d.shown_counts (device_of file) h)) e
