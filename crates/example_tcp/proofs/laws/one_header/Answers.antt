use Rattle.example_tcp.proofs.laws.one_header.Goals as goal
use Rattle.example_tcp.proofs.HeaderLemmas as headers

pub returns : goal.returns
returns c = headers.one_header
