-- Two halves of one number.
use mathlib.Core.Path.{◌∙◌, ap}
use native.Mathlib.Omega.{arith}
use Rattle.linkstate.specs.Lists.{put}
use Rattle.octets.proofs.Laws.{four-head}
use Rattle.tlv_bytes.proofs.write_head.Goals as goal

pub returns : goal.returns
returns c = c.write32.ensures ∙ ap (put c.args.out.now c.args.at) (four-head c.args.code c.args.len (omega (arith, c.ranges.len.fits)))
