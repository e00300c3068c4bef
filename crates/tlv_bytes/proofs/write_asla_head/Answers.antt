-- `tlv_bytes::write_asla_head` meets its contract. Assumes nothing.
use Rattle.tlv_bytes.proofs.AslaLaws.{put-head}
use Rattle.tlv_bytes.proofs.write_asla_head.Goals as goal

pub returns : goal.returns
returns c = put-head _ _ _ _ _ _ _ c.requires.0 c.requires.1 c.write_head.ensures c.write32.ensures c.requires.3
