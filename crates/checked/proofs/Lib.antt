mod CodeWords
