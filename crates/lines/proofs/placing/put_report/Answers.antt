use Rattle.card_writing.proofs.Bytes.{put_both}
use Rattle.lines.proofs.placing.put_report.Goals as goal

pub returns : goal.returns
returns c = put_both c.put_book-at.ensures.put (put_both c.put_bytes-at.ensures.put (put_both c.put_number-at.ensures.put (put_both c.put_bytes-at-2.ensures.put (put_both c.put_number-at-2.ensures.put c.put_bytes.ensures.put))))
