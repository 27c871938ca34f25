mod HeaderLemmas
