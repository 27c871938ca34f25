use Rattle.example_packet.proofs.header.read.Goals as goal
use Rattle.example_packet.proofs.HeaderLemmas.{header_same}

pub returns-clause-header : goal.returns-clause-header
returns-clause-header g c header steady fits has =
    header_same _ header (c.get.ensures.number header.version steady fits.version has.version) (c.get-2.ensures.number header.class steady fits.class has.class)
    (c.get-3.ensures.number header.flags steady fits.flags has.flags) (c.get-4.ensures.number header.length steady fits.length has.length)
