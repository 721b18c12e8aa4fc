mod SenderLemmas
