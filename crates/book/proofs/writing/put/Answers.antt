use Rattle.std.proofs.Common.{◌+◌, ◌≤◌, length, sym, arith, le-leb}
use Rattle.book.proofs.Overwrites.{copied_is}
use Rattle.book.proofs.writing.put.Goals as goal

pub returns : goal.returns
returns c =
    let room : c.args.at + length c.args.bytes.now ≤ length c.args.buffer.now = omega arith in
    record {
      answer = sym (rw (le-leb _ _ room));
      after = copied_is c.args.buffer.now c.args.bytes.now c.copy_from_slice.new.self c.args.at _ c.copy_from_slice.ensures.after (omega arith);
    }
