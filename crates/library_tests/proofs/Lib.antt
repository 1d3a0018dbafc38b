mod PutBackLemmas
