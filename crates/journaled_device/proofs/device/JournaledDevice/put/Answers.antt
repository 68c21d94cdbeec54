-- A write that is noted, and an append that was refused.
use Rattle.std.proofs.Common.{◌≤◌, ◌<◌, refl, length, arith, inl}
use Rattle.logged_pair.specs.Standing.{shown_of}
use Rattle.journaled_device.proofs.Noting.{is_same, is_written, noted_same, noted_write, noted_written}
use Rattle.journaled_device.proofs.Noting.{refused_write}
use Rattle.journaled_device.proofs.device.JournaledDevice.put.Goals as goal

pub invariant_of-self : goal.invariant_of-self
invariant_of-self g c = record {
  noted = λ h'.
      let p = c.args.self.now.pair in let e = c.write_beside-result.new.pair in
      let h = c.write_beside-result.ensures.honest.1 h' in
      let n = c.args.self.now.noted h in
      let k = c.write_beside-result.ensures.keeps h in
      let short : length (shown_of e) ≤ c.args.i = omega (arith, c.if-i-blocks.true, c.blocks-2.ensures.is) in
      noted_same p e c.args.self.now.past.taken n k.stops.later
      (is_same c.args.i c.args.bytes.now (shown_of p) (shown_of e) c.requires.within n.whole
      c.write_beside-result.result short (c.write_beside-result.ensures.written h) (c.write_beside-result.ensures.torn h))
      (λ kept is. inl (k.now kept is));
}

pub returns-then-i-blocks-clause-done : goal.returns-then-i-blocks-clause-done
returns-then-i-blocks-clause-done g c = λ h.
    let d = c.args.self.now in
    let short : length (shown_of c.write_beside-result.new.pair) ≤ c.args.i =
    omega (arith, c.if-i-blocks.true, c.blocks-2.ensures.is) in
    refused_write d _ (d.noted h) c.args.i c.args.bytes.now c.write_beside-result.result refl c.requires.within
    short (c.write_beside-result.ensures.written h) (c.write_beside-result.ensures.torn h)
    (c.write_beside-result.ensures.keeps h)

pub invariant_of-self-2 : goal.invariant_of-self-2
invariant_of-self-2 g c = record {
  noted = λ h'.
      let p = c.args.self.now.pair in let e = c.write_beside-result.new.pair in
      let h = c.write_beside-result.ensures.honest.1 h' in
      let n = c.args.self.now.noted h in
      let k = c.write_beside-result.ensures.keeps h in
      let lt : c.args.i < length (shown_of e) = omega (arith, c.if-i-blocks.false, c.blocks-2.ensures.is) in
      let w = is_written c.args.i c.args.bytes.now (shown_of p) (shown_of e) c.requires.within n.whole
      c.write_beside-result.result (record { size = c.told-bytes; bytes_fit = c.fits-bytes }) lt
      (c.write_beside-result.ensures.written h) (c.write_beside-result.ensures.torn h) in
      noted_written p e c.args.self.now.past.taken n k.stops.later c.with-past.result.taken c.args.i w.0
      c.with-past.ensures c.requires.within w.1 w.2;
}

pub returns-clause-done : goal.returns-clause-done
returns-clause-done g c = λ h.
    let d = c.args.self.now in
    let lt : c.args.i < length (shown_of c.write_beside-result.new.pair) =
    omega (arith, c.if-i-blocks.false, c.blocks-2.ensures.is) in
    noted_write d _ (d.noted h) c.args.i c.args.bytes.now c.write_beside-result.result c.with-past.ensures
    (record { size = c.told-bytes; bytes_fit = c.fits-bytes }) c.requires.within lt
    (c.write_beside-result.ensures.written h) (c.write_beside-result.ensures.torn h) (c.write_beside-result.ensures.keeps h)
