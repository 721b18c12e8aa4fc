mod UnsentLemmas
mod Walks
