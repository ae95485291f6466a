mod LineLemmas
mod TallyLemmas
